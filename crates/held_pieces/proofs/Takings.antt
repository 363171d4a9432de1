-- Live pieces that go.
use Rattle.std.proofs.Common.{◌≡◌, ℕ, List, [], ◌∷◌, refl, sym, ◌∙◌, ap, subst, Bool, true, false}
use Rattle.std.specs.Prelude.{IsPermutation, Option, Some, None, option_and_then, option_map, ◌==◌, if◌then◌else◌}
use Rattle.std.specs.List.{AllByRecursion}
use Rattle.std.specs.Bool.{OnTrue}
use Rattle.std.proofs.lemmas.Bool.{eq-eqb, eqb-true}
use Rattle.tape_base.specs.declared.keys.Key.{Key}
use Rattle.alternate_vector.specs.Alternates.{Stored}
use Rattle.tape_base.specs.declared.pieces.PieceId.{PieceId}
use Rattle.tape_base.specs.declared.digests.Digest.{Digest}
use Rattle.dir_table.specs.Rows.{has_row}
use Rattle.cyclone.specs.Cyclone.{IsTurning, SameButRows, Seen, row_of_piece}
use Rattle.cache_model.specs.declared.record.Rec.TheVariants as rec
use Rattle.cache_model.specs.State.{Complete, LastVector, Row, State, TakenOut, last_vector, live_row_of, state_after, vector_piece, without, without_earlier}
use Rattle.cache_model.specs.Verdict.{vector_of, vector_of_last}
use Rattle.cache_model.specs.Tape.{IsSound}
use Rattle.cache_model.proofs.Sound.{later_leaves}
use Rattle.held_pieces.specs.Held.{IsHeld}
use Rattle.held_pieces.specs.Whereabouts.{live_place_of}
use Rattle.held_pieces.specs.Records.{IsWithout}
use Rattle.held_pieces.proofs.Going.{alike_is_held, all_left, passed_is_held, taken_is_held}
use Rattle.held_pieces.proofs.Lives.{IsLiveAt, live_at, live_has_row}

-- how an entry was taken out
pub record IsTakenOut (c new : Seen) (id : PieceId) (place : ℕ) (found : Bool) : Type 0 where
  pub turning : IsTurning new
  pub found_is : found ≡ has_row (row_of_piece c id place) c.rows
  pub same : SameButRows c new
  pub gone : OnTrue found (IsPermutation c.rows (row_of_piece c id place ∷ new.rows))

if_true : (b : Bool) (P : Type 0) → b ≡ true → OnTrue b P → P
if_true true P h x = x
if_true false P h x = cc

pub entry_goes : (s : State) (c new : Seen) (id : PieceId) (place : ℕ) (found : Bool) (live : IsLiveAt s id place) → IsHeld s c → IsTakenOut c new id place found
    → IsPermutation c.rows (row_of_piece c id live.row.place ∷ new.rows)
entry_goes s c new id place found live held out =
    let there : has_row (row_of_piece c id place) c.rows ≡ true = subst (λ p. has_row (row_of_piece c id p) c.rows ≡ true) live.at (live_has_row s c id live.row held live.live) in
    subst (λ p. IsPermutation c.rows (row_of_piece c id p ∷ new.rows)) (sym live.at) (if_true found _ (out.found_is ∙ there) out.gone)

-- one whose bytes are not its own leaves the records
pub damaged_without : (s : State) (id : PieceId) (place : ℕ) (kept other : Digest) → IsSound s
    → IsWithout s (state_after s (rec.Damaged id place kept other)) id
damaged_without s id place kept other sound = record {
  geometry = refl;
  cursor = refl;
  least = refl;
  filled = refl;
  rows = refl;
  fault = refl;
  sound = (later_leaves s (rec.Damaged id place kept other ∷ []) (tt, tt) sound).sound;
}

pub damaged_is_held : (s : State) (c new : Seen) (id : PieceId) (place : ℕ) (kept other : Digest) (found : Bool) → IsHeld s c → live_place_of s id ≡ Some place
    → IsTakenOut c new id place found → IsHeld (state_after s (rec.Damaged id place kept other)) new
damaged_is_held s c new id place kept other found held h out =
    let live : IsLiveAt s id place = live_at s id place h in
    taken_is_held s (state_after s (rec.Damaged id place kept other)) c new id live.row held live.live
    (damaged_without s id place kept other held.sound)
    out.same (entry_goes s c new id place found live held out) out.turning

-- ---- whatever state has the pieces without one

pub live_entry_goes : (s t : State) (c new : Seen) (id : PieceId) (place : ℕ) (found : Bool) → IsHeld s c → live_place_of s id ≡ Some place → IsTakenOut c new id place found
    → IsWithout s t id → IsHeld t new
live_entry_goes s t c new id place found held h out gone =
    let live : IsLiveAt s id place = live_at s id place h in
    taken_is_held s t c new id live.row held live.live gone out.same (entry_goes s c new id place found live held out) out.turning

pub no_row : (o : Option Row) → option_map (λ (row : Row). row.place) o ≡ None → o ≡ None
no_row None h = refl
no_row (Some row) h = cc

pub no_entry_goes : (s t : State) (c : Seen) (id : PieceId) → IsHeld s c → live_place_of s id ≡ None → IsWithout s t id → IsHeld t c
no_entry_goes s t c id held h gone = passed_is_held s t c id held (no_row (live_row_of s id) h) gone

-- ---- a put that is complete

earlier_is : (key : Key) (put : ℕ) (last : Option LastVector) (rows : List Row) (id : PieceId) → option_and_then (vector_of_last key) last ≡ Some id → (id.put == put) ≡ false
    → without_earlier key put last rows ≡ without id rows
earlier_is key put None rows id h other = cc
earlier_is key put (Some (TakenOut old)) rows id h other = cc
earlier_is key put (Some (Complete old)) rows id h other =
    let same : vector_piece key old ≡ id = cc in
    let differs : (old == put) ≡ false = ap (λ (i : PieceId). i.put == put) same ∙ other in
    rw differs (ap (λ i. without i rows) same)

committed_sound : (s : State) (put length : ℕ) (key : Key) (list : List Stored) → IsSound s → IsSound (state_after s (rec.Committed put key length list))
committed_sound s put length key list sound = (later_leaves s (rec.Committed put key length list ∷ []) (tt, tt) sound).sound

pub committed_without : (s : State) (put length : ℕ) (key : Key) (list : List Stored) (id : PieceId) → IsSound s → vector_of s key ≡ Some id → (id.put == put) ≡ false
    → IsWithout s (state_after s (rec.Committed put key length list)) id
committed_without s put length key list id sound h other = record {
  geometry = refl;
  cursor = refl;
  least = refl;
  filled = refl;
  rows = earlier_is key put (last_vector s key) s.rows id h other;
  fault = refl;
  sound = committed_sound s put length key list sound;
}

-- what holds of all pieces holds of those that are left
pub all_committed : (P : Row → Type 0) (key : Key) (put : ℕ) (last : Option LastVector) (rows : List Row) → AllByRecursion P rows
    → AllByRecursion P (without_earlier key put last rows)
all_committed P key put None rows all = all
all_committed P key put (Some (TakenOut old)) rows all = all
all_committed P key put (Some (Complete old)) rows all = by (old == put)
  where
    by : (own : Bool) → AllByRecursion P (if own then rows else without (vector_piece key old) rows)
    by true = all
    by false = all_left P (vector_piece key old) rows all

-- the pieces stay where the key had no vector before
pub none_earlier : (s : State) (key : Key) (put : ℕ) → None ≡ vector_of s key → without_earlier key put (last_vector s key) s.rows ≡ s.rows
none_earlier s key put h = by (last_vector s key) h
  where
    by : (last : Option LastVector) → None ≡ option_and_then (vector_of_last key) last → without_earlier key put last s.rows ≡ s.rows
    by None e = refl
    by (Some (TakenOut old)) e = refl
    by (Some (Complete old)) e = cc

-- and where that is the put's own
pub own_earlier : (s : State) (key : Key) (put : ℕ) (id : PieceId) → Some id ≡ vector_of s key → id.put ≡ put → without_earlier key put (last_vector s key) s.rows ≡ s.rows
own_earlier s key put id h own = by (last_vector s key) h
  where
    by : (last : Option LastVector) → Some id ≡ option_and_then (vector_of_last key) last → without_earlier key put last s.rows ≡ s.rows
    by None e = refl
    by (Some (TakenOut old)) e = refl
    by (Some (Complete old)) e =
        let piece : vector_piece key old ≡ id = cc in
        let same : old ≡ put = ap (λ (i : PieceId). i.put) piece ∙ own in
        rw (eq-eqb old put same) refl

pub committed_is_held : (s : State) (c : Seen) (put length : ℕ) (key : Key) (list : List Stored) → IsHeld s c → without_earlier key put (last_vector s key) s.rows ≡ s.rows
    → IsHeld (state_after s (rec.Committed put key length list)) c
committed_is_held s c put length key list held rows =
    alike_is_held s (state_after s (rec.Committed put key length list)) c held
    (record { geometry = refl; cursor = refl; least = refl; filled = refl; rows = rows; sound = committed_sound s put length key list held.sound }) held.faults

pub other_put : (a b : ℕ) → (a ≡ b → ⊥) → (a == b) ≡ false
other_put a b h = by (a == b) refl
  where
    by : (x : Bool) → (a == b) ≡ x → x ≡ false
    by false e = refl
    by true e = absurd (h (eqb-true a b e))

-- ---- an object that is removed

vector_is : (key : Key) (last : Option LastVector) (id : PieceId) → option_and_then (vector_of_last key) last ≡ Some id → id ≡ vector_piece key id.put
vector_is key None id h = cc
vector_is key (Some (TakenOut old)) id h = cc
vector_is key (Some (Complete old)) id h = let is : vector_piece key old ≡ id = cc in sym is ∙ ap (λ (i : PieceId). vector_piece key i.put) is

pub vector_named : (s : State) (key : Key) (id : PieceId) → vector_of s key ≡ Some id → id ≡ vector_piece key id.put
vector_named s key id h = vector_is key (last_vector s key) id h

pub removed_without : (s : State) (key : Key) (id : PieceId) → IsSound s → vector_of s key ≡ Some id → IsWithout s (state_after s (rec.Removed id.put key)) id
removed_without s key id sound h = record {
  geometry = refl;
  cursor = refl;
  least = refl;
  filled = refl;
  rows = ap (λ i. without i s.rows) (sym (vector_named s key id h));
  fault = refl;
  sound = (later_leaves s (rec.Removed id.put key ∷ []) (tt, tt) sound).sound;
}
