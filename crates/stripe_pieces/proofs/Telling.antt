-- What is told of the pieces that were looked at before a flush leaves the others held.
use Rattle.std.proofs.Common.{◌≡◌, ℕ, ◌+◌, ◌≤◌, Bool, List, [], ◌∷◌, refl, sym, ◌∙◌, ap, subst, arith, drop, length, suc}
use Rattle.std.proofs.lemmas.List.{drop_all}
use Rattle.tape_base.specs.declared.pieces.PieceId.{PieceId}
use Rattle.evacuator.specs.declared.choosing.Candidate.{Candidate}
use Rattle.cyclone.specs.Cyclone.{Seen, SameButRows}
use Rattle.cache_model.specs.declared.record.Rec.{Rec}
use Rattle.cache_model.specs.declared.record.Rec.TheVariants as rec
use Rattle.cache_model.specs.State.{State, after_all, state_after}
use Rattle.cache_model.specs.Kept.{Kept, state_of, with_records}
use Rattle.cache_model.proofs.Sound.{later_leaves}
use Rattle.cache_model.specs.Contents.{Contents}
use Rattle.piece_answers.specs.declared.ahead.Fate.{Fate}
use Rattle.held_pieces.specs.Held.{IsHeld}
use Rattle.piece_answers.specs.Standing.{AreStanding}
use Rattle.stripe_pieces.specs.Copying.{AreTellable, told_of_piece, told_of_pieces}
use Rattle.piece_answers.proofs.RecordsAdded.{state_of-with_records, with_records-nil}
use Rattle.held_pieces.proofs.Going.{alike_is_held}

-- that a piece is not saved
pub unsaved_is_held : (s : State) (c : Seen) (piece : PieceId) (place : ℕ) (fault : Bool) → IsHeld s c → IsHeld (state_after s (rec.Unsaved piece place fault)) c
unsaved_is_held s c piece place fault held =
    alike_is_held s (state_after s (rec.Unsaved piece place fault)) c held
    (record { geometry = refl; cursor = refl; least = refl; filled = refl; rows = refl; sound = (later_leaves s (rec.Unsaved piece place fault ∷ []) (tt, tt) held.sound).sound }) held.faults

-- the state behind records that a chronicle has
pub state_behind : (k new : Kept) (recs : List Rec) → new ≡ with_records k recs → state_of new ≡ after_all (state_of k) recs
state_behind k new recs is = ap state_of is ∙ state_of-with_records k recs

pub held_behind : (k new : Kept) (recs : List Rec) (c : Seen) → new ≡ with_records k recs → IsHeld (after_all (state_of k) recs) c → IsHeld (state_of new) c
held_behind k new recs c is held = subst (λ t. IsHeld t c) (sym (state_behind k new recs is)) held

-- what stands behind them
pub stands_behind : (contents : Contents) (k new : Kept) (recs : List Rec) (c : Seen) → new ≡ with_records k recs
    → AreStanding contents (after_all (state_of k) recs) c → AreStanding contents (state_of new) c
stands_behind contents k new recs c is stands = subst (λ t. AreStanding contents t c) (sym (state_behind k new recs is)) stands

-- ---- one behind the other

told_as_many : (done : Bool) (s : State) (faults : ℕ) (cs : List Candidate) (fs : List Fate) → AreTellable done s faults cs fs → length cs ≡ length fs
told_as_many done s faults [] [] h = refl
told_as_many done s faults [] (f ∷ fs) h = absurd h
told_as_many done s faults (c ∷ cs) [] h = absurd h
told_as_many done s faults (c ∷ cs) (f ∷ fs) h = ap suc (told_as_many done (after_all s (told_of_piece done c f)) faults cs fs h.1)

-- so many pieces were told of: what that added, and that the others can be told of
pub record HasTold (k new : Kept) (c seen : Seen) (room left : ℕ) (done : Bool) (cs : List Candidate) (fs : List Fate) (i : ℕ) : Type 0 where
  pub held : IsHeld (state_of new) seen
  pub many : length cs ≡ length fs
  pub rest : AreTellable done (state_of new) c.device.faults (drop i cs) (drop i fs)
  pub adds : with_records new (told_of_pieces done (drop i cs) (drop i fs)) ≡ with_records k (told_of_pieces done cs fs)
  pub same : SameButRows c seen
  pub contents : (contents : Contents) → AreStanding contents (state_of k) c → AreStanding contents (state_of new) seen
  pub spends : room + length (told_of_pieces done (drop i cs) (drop i fs)) ≤ left + length (told_of_pieces done cs fs)

pub nothing_told : (k : Kept) (c : Seen) (room : ℕ) (done : Bool) (cs : List Candidate) (fs : List Fate) → IsHeld (state_of k) c → AreTellable done (state_of k) c.device.faults cs fs
    → HasTold k k c c room room done cs fs 0
nothing_told k c room done cs fs held told = record {
  held = held;
  many = told_as_many done (state_of k) c.device.faults cs fs told;
  rest = told;
  adds = refl;
  same = record { same = refl; spare = omega arith };
  contents = λ contents stands. stands;
  spends = omega arith;
}

-- of all of them
pub all_told : (k new : Kept) (c seen : Seen) (room left : ℕ) (done : Bool) (cs : List Candidate) (fs : List Fate) (i : ℕ) → HasTold k new c seen room left done cs fs i
    → length cs ≤ i → (new ≡ with_records k (told_of_pieces done cs fs)) × (room ≤ left + length (told_of_pieces done cs fs))
all_told k new c seen room left done cs fs i h end =
    let none : drop i cs ≡ [] = drop_all i cs end in
    let adds = subst (λ ds. with_records new (told_of_pieces done ds (drop i fs)) ≡ with_records k (told_of_pieces done cs fs)) none h.adds in
    let spends = subst (λ ds. room + length (told_of_pieces done ds (drop i fs)) ≤ left + length (told_of_pieces done cs fs)) none h.spends in
    (sym (with_records-nil new) ∙ adds, omega (arith, spends))
