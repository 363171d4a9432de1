-- A piece that is lost in a session was told so by a record of one of its lines.
use Rattle.std.proofs.Common.{◌≡◌, ℕ, List, [], ◌∷◌, Bool, true, false, refl, sym, ap, inl, inr, ◌⊎◌, subst}
use Rattle.std.specs.Prelude.{Option, Some, None, cond}
use Rattle.std.specs.Map.{lookup}
use Rattle.tape_base.specs.declared.digests.Digest.{Digest}
use Rattle.tape_base.specs.declared.pieces.PieceId.{PieceId}
use Rattle.tape_base.specs.Piece.{same_piece}
use Rattle.tape_base.proofs.NameLaws.{same_piece-true}
use Rattle.cache_model.specs.declared.cause.Cause.{Cause}
use Rattle.cache_model.specs.declared.cause.Cause.TheVariants as cause
use Rattle.cache_model.specs.declared.record.Rec.{Rec}
use Rattle.cache_model.specs.declared.record.Rec.TheVariants as rec
use Rattle.cache_model.specs.State.{State, state_after}
use Rattle.cache_model.specs.Verdict.{cause_of_loss}
use Rattle.cache_model.specs.Permit.{IsAmong}
use Rattle.cache_model.proofs.Found.{none_is, same_some}
use Rattle.script_run.specs.Run.{Run, fresh}
use Rattle.script_run.specs.Turn.{Turn}
use Rattle.script_run.specs.Takes.{IsRun, run_after}
use Rattle.script_laws.specs.Causes.{is_standing}
use Rattle.line_laws.proofs.Since.{HoldsWhere, ToldAlong, told_along}

-- the loss that a record tells
abbrev pub loss_in : Rec → Option (PieceId × Cause)
loss_in (rec.Displaced piece segment live) = Some (piece, cause.Displaced segment live)
loss_in (rec.Damaged piece place kept found) = Some (piece, cause.Damaged place kept found)
loss_in _ = None

module _ (loss : PieceId × Cause) where
  abbrev pub IsLost : State → Type 0
  IsLost s = IsAmong loss s.lost

  abbrev pub TellsLoss : Rec → Type 0
  TellsLoss r = loss_in r ≡ Some loss

  pub lost_by : (s : State) (r : Rec) → IsLost (state_after s r) → IsLost s ⊎ TellsLoss r
  lost_by s (rec.Formatted geometry) h = absurd h
  lost_by s (rec.Opened geometry serial cursor floor next_put clean list) h = absurd h
  lost_by s (rec.Displaced piece segment live) (inl e) = inr (ap Some (sym e))
  lost_by s (rec.Displaced piece segment live) (inr old) = inl old
  lost_by s (rec.Damaged piece place kept found) (inl e) = inr (ap Some (sym e))
  lost_by s (rec.Damaged piece place kept found) (inr old) = inl old
  lost_by s _ h = inl h

  -- a line of the session told it
  abbrev pub LossAlong : Run → List (List ℕ) → List Turn → Type 0
  LossAlong = ToldAlong IsLost TellsLoss

  pub loss_is_told : (lines : List (List ℕ)) (turns : List Turn) (s : State) → IsRun fresh lines turns → (run_after fresh lines turns).state ≡ Some s → IsLost s → LossAlong fresh lines turns
  loss_is_told lines turns s is e h = elim (told_along IsLost TellsLoss (λ g none. none) lost_by lines turns fresh is (subst (HoldsWhere IsLost TellsLoss) (sym e) h)) [
    | inl old ↦ absurd old.0
    | inr told ↦ told
  ]

-- ---- which record it is

parts : (x y : PieceId × Cause) → Some x ≡ Some y → (x.0 ≡ y.0) × (x.1 ≡ y.1)
parts x y h = let same : x ≡ y = same_some x y (Some x) refl h in (ap (λ (l : PieceId × Cause). l.0) same, ap (λ (l : PieceId × Cause). l.1) same)

pub damaged_by : (r : Rec) (piece : PieceId) (place : ℕ) (kept found : Digest) → loss_in r ≡ Some (piece, cause.Damaged place kept found) → r ≡ rec.Damaged piece place kept found
damaged_by (rec.Damaged p at k f) piece place kept found h = let is = parts _ _ h in let same : p ≡ piece = is.0 in let why : cause.Damaged at k f ≡ cause.Damaged place kept found = is.1 in cc
damaged_by (rec.Displaced p segment live) piece place kept found h = let why : cause.Displaced segment live ≡ cause.Damaged place kept found = (parts _ _ h).1 in absurd cc
damaged_by _ piece place kept found h = none_is h

pub displaced_by : (r : Rec) (piece : PieceId) (segment live : ℕ) → loss_in r ≡ Some (piece, cause.Displaced segment live) → r ≡ rec.Displaced piece segment live
displaced_by (rec.Displaced p a b) piece segment live h = let is = parts _ _ h in let same : p ≡ piece = is.0 in let why : cause.Displaced a b ≡ cause.Displaced segment live = is.1 in cc
displaced_by (rec.Damaged p at k f) piece segment live h = let why : cause.Damaged at k f ≡ cause.Displaced segment live = (parts _ _ h).1 in absurd cc
displaced_by _ piece segment live h = none_is h

-- a loss is no cause of how things stand
loss_stands_none : (r : Rec) (piece : PieceId) (why : Cause) → loss_in r ≡ Some (piece, why) → is_standing why ≡ false
loss_stands_none (rec.Displaced p segment live) piece why h = let same : cause.Displaced segment live ≡ why = (parts _ _ h).1 in ap is_standing (sym same)
loss_stands_none (rec.Damaged p place kept found) piece why h = let same : cause.Damaged place kept found ≡ why = (parts _ _ h).1 in ap is_standing (sym same)
loss_stands_none _ piece why h = none_is h

-- ---- of a state

-- the loss that is told of a piece
loss_by : (id : PieceId) (first : PieceId × Cause) (losses : List (PieceId × Cause)) (why : Cause) (b : Bool) → same_piece first.0 id ≡ b
    → (lookup (λ lost. same_piece lost id) losses ≡ Some why → IsAmong (id, why) losses)
    → cond b (Some first.1) (lookup (λ lost. same_piece lost id) losses) ≡ Some why → IsAmong (id, why) (first ∷ losses)
loss_by id first losses why true e rest found =
    let piece : first.0 ≡ id = same_piece-true first.0 id e in
    let same : first.1 ≡ why = same_some first.1 why (Some first.1) refl found in
    inl (λ i. (sym piece i, sym same i))
loss_by id first losses why false e rest found = inr (rest found)

pub loss_found : (id : PieceId) (losses : List (PieceId × Cause)) (why : Cause) → lookup (λ lost. same_piece lost id) losses ≡ Some why → IsAmong (id, why) losses
loss_found id [] why h = none_is h
loss_found id (first ∷ losses) why h = loss_by id first losses why (same_piece first.0 id) refl (loss_found id losses why) h

-- no piece of a script is lost for a cause of how things stand
pub no_standing_loss : (lines : List (List ℕ)) (turns : List Turn) (s : State) → IsRun fresh lines turns → (run_after fresh lines turns).state ≡ Some s → (id : PieceId) (why : Cause)
    → cause_of_loss s id ≡ Some why → is_standing why ≡ false
no_standing_loss lines turns s is e id why found =
    let t : LossAlong (id, why) fresh lines turns = loss_is_told (id, why) lines turns s is e (loss_found id s.lost why found) in
    loss_stands_none t.made.told id why t.made.tells
