-- What records make of a key's last vector, of its puts that were given up, and of where a piece stands: each of these holds
-- by a record that brought it about, and by none since.
use Rattle.std.proofs.Common.{◌≡◌, ℕ, Bool, true, false, refl, sym, ◌∙◌, ap, subst, inl, inr, ◌⊎◌, eqb-true}
use Rattle.std.specs.Prelude.{List, Option, Some, None, cond, option_map, ◌==◌, ◌||◌}
use Rattle.tape_base.specs.declared.digests.Digest.{Digest}
use Rattle.tape_base.specs.declared.geometries.Geometry.{Geometry}
use Rattle.tape_base.specs.declared.keys.Key.{Key}
use Rattle.tape_base.specs.declared.pieces.PieceId.{PieceId}
use Rattle.tape_base.specs.Key.{same_key}
use Rattle.tape_base.specs.Piece.{same_piece}
use Rattle.tape_base.proofs.NameLaws.{same_key-true, same_key-same, same_piece-true, same_piece-same}
use Rattle.cache_model.specs.declared.record.Rec.{Rec}
use Rattle.cache_model.specs.declared.record.Rec.TheVariants as rec
use Rattle.cache_model.specs.State.{State, Row, LastVector, Complete, TakenOut, last_abort, last_vector, moved_row, placed_row, row_in, row_of, state_after, vector_piece, without, without_earlier}
use Rattle.cache_model.specs.Verdict.{is_unsaved}
use Rattle.cache_model.specs.Permit.{IsAmong, Permit}
use Rattle.cache_model.specs.Legal.{format_records}
use Rattle.cache_model.proofs.Found.{no_truth, none_is, same_some}
use Rattle.cache_model.proofs.Lists.{row_in-without, row_in-placed, row_in-copied}
use Rattle.script_laws.proofs.Groups.{IsKept}
use Rattle.headline.specs.Standing.{BringsTo, ChangesVector, Completes, CompletesPut, GivesUpKey, LeavesAt, Shifts}
use Rattle.account_laws.proofs.Last.{ByRecord}
use Rattle.account_laws.proofs.Staying.{found_none, other_by}

other_key : (key k : Key) → same_key k key ≡ false → k ≡ key → ⊥
other_key key k e same = no_truth (sym (subst (λ n. same_key n key ≡ true) (sym same) (same_key-same key)) ∙ e)

-- ---- the last vector

module _ (key : Key) (put : ℕ) where
  abbrev pub IsTakenOut : State → Type 0
  IsTakenOut s = last_vector s key ≡ Some (TakenOut put)

  abbrev pub IsRemoval : Rec → Type 0
  IsRemoval told = told ≡ rec.Removed put key

  out_by_commit : (s : State) (n : ℕ) (k : Key) (b : Bool) → same_key k key ≡ b → cond b (Some (Complete n)) (last_vector s key) ≡ Some (TakenOut put) → IsTakenOut s × (k ≡ key → ⊥)
  out_by_commit s n k true e h = absurd cc
  out_by_commit s n k false e h = (h, other_key key k e)

  out_by_removal : (s : State) (n : ℕ) (k : Key) (b : Bool) → same_key k key ≡ b → cond b (Some (TakenOut n)) (last_vector s key) ≡ Some (TakenOut put)
      → (IsTakenOut s × (⊥ → ⊥)) ⊎ IsRemoval (rec.Removed n k)
  out_by_removal s n k true e h =
      let name : k ≡ key = same_key-true k key e in
      let number : n ≡ put = cc in
      inr (λ i. rec.Removed (number i) (name i))
  out_by_removal s n k false e h = inl (h, λ none. none)

  pub taken_out_by : (p : Permit) (s : State) (r : Rec) → IsKept p r → IsTakenOut (state_after s r) → ByRecord IsTakenOut IsRemoval (Completes key) s r
  taken_out_by p s (rec.Formatted geometry) kept h = absurd kept
  taken_out_by p s (rec.Opened geometry serial cursor floor next_put clean list) kept h = absurd kept
  taken_out_by p s (rec.Committed n k bytes list) kept h = inl (out_by_commit s n k (same_key k key) refl h)
  taken_out_by p s (rec.Removed n k) kept h = out_by_removal s n k (same_key k key) refl h
  taken_out_by p s _ kept h = inl (h, λ none. none)

  abbrev pub IsComplete : State → Type 0
  IsComplete s = last_vector s key ≡ Some (Complete put)

  complete_by_commit : (s : State) (n : ℕ) (k : Key) (b : Bool) → same_key k key ≡ b → cond b (Some (Complete n)) (last_vector s key) ≡ Some (Complete put)
      → (IsComplete s × (k ≡ key → ⊥)) ⊎ ((n ≡ put) × (k ≡ key))
  complete_by_commit s n k true e h = let number : n ≡ put = cc in inr (number, same_key-true k key e)
  complete_by_commit s n k false e h = inl (h, other_key key k e)

  complete_by_removal : (s : State) (n : ℕ) (k : Key) (b : Bool) → same_key k key ≡ b → cond b (Some (TakenOut n)) (last_vector s key) ≡ Some (Complete put) → IsComplete s × (k ≡ key → ⊥)
  complete_by_removal s n k true e h = absurd cc
  complete_by_removal s n k false e h = (h, other_key key k e)

  pub complete_by : (p : Permit) (s : State) (r : Rec) → IsKept p r → IsComplete (state_after s r) → ByRecord IsComplete (CompletesPut key put) (ChangesVector key) s r
  complete_by p s (rec.Formatted geometry) kept h = absurd kept
  complete_by p s (rec.Opened geometry serial cursor floor next_put clean list) kept h = absurd kept
  complete_by p s (rec.Committed n k bytes list) kept h = complete_by_commit s n k (same_key k key) refl h
  complete_by p s (rec.Removed n k) kept h = inl (complete_by_removal s n k (same_key k key) refl h)
  complete_by p s _ kept h = inl (h, λ none. none)

  -- ---- puts that were given up

  abbrev pub IsLastAbort : State → Type 0
  IsLastAbort s = last_abort s key ≡ Some put

  abbrev pub IsAbort : Rec → Type 0
  IsAbort told = told ≡ rec.Aborted put key

  abort_by_abort : (s : State) (n : ℕ) (k : Key) (b : Bool) → same_key k key ≡ b → cond b (Some n) (last_abort s key) ≡ Some put
      → (IsLastAbort s × (k ≡ key → ⊥)) ⊎ IsAbort (rec.Aborted n k)
  abort_by_abort s n k true e h =
      let name : k ≡ key = same_key-true k key e in
      let number : n ≡ put = cc in
      inr (λ i. rec.Aborted (number i) (name i))
  abort_by_abort s n k false e h = inl (h, other_key key k e)

  pub last_abort_by : (p : Permit) (s : State) (r : Rec) → IsKept p r → IsLastAbort (state_after s r) → ByRecord IsLastAbort IsAbort (GivesUpKey key) s r
  last_abort_by p s (rec.Formatted geometry) kept h = absurd kept
  last_abort_by p s (rec.Opened geometry serial cursor floor next_put clean list) kept h = absurd kept
  last_abort_by p s (rec.Aborted n k) kept h = abort_by_abort s n k (same_key k key) refl h
  last_abort_by p s _ kept h = inl (h, λ none. none)

-- a key whose vector was once changed has a last one
module _ (key : Key) where
  abbrev pub HasVector : State → Type 0
  HasVector s = last_vector s key ≡ None → ⊥

  pub formats_change_none : (g : Geometry) (told : Rec) → IsAmong told (format_records g) → ChangesVector key told → ⊥
  formats_change_none g told among changes = elim among [
    | inl first ↦ subst (ChangesVector key) first changes
    | inr later ↦ elim later [ inl second ↦ subst (ChangesVector key) second changes | inr none ↦ none ]
  ]

  pub vector_by : (s : State) (r : Rec) → ChangesVector key r → HasVector (state_after s r)
  vector_by s (rec.Committed put k bytes list) changes h = found_none key k (Complete put) (last_vector s key) changes h
  vector_by s (rec.Removed put k) changes h = found_none key k (TakenOut put) (last_vector s key) changes h
  vector_by s _ changes h = changes

  pub vector_stays : (p : Permit) (s : State) (r : Rec) → IsKept p r → HasVector s → HasVector (state_after s r)
  vector_stays p s (rec.Formatted geometry) kept has h = kept
  vector_stays p s (rec.Opened geometry serial cursor floor next_put clean list) kept has h = kept
  vector_stays p s (rec.Committed put k bytes list) kept has h = has (other_by (same_key k key) (Complete put) (last_vector s key) h)
  vector_stays p s (rec.Removed put k) kept has h = has (other_by (same_key k key) (TakenOut put) (last_vector s key) h)
  vector_stays p s _ kept has h = has h

-- ---- where a piece stands

other_piece : (id piece : PieceId) → same_piece piece id ≡ false → piece ≡ id → ⊥
other_piece id piece e same = no_truth (sym (subst (λ i. same_piece i id ≡ true) (sym same) (same_piece-same id)) ∙ e)

-- a row that is left was there
left_by : (b : Bool) (o : Option Row) (row : Row) → cond b None o ≡ Some row → (b ≡ false) × (o ≡ Some row)
left_by true o row h = none_is h
left_by false o row h = (refl, h)

left : (gone id : PieceId) (rows : List Row) (row : Row) → row_in (without gone rows) id ≡ Some row → (same_piece gone id ≡ false) × (row_in rows id ≡ Some row)
left gone id rows row h = left_by (same_piece gone id) (row_in rows id) row (sym (row_in-without gone id rows) ∙ h)

earlier_by : (key : Key) (put old : ℕ) (id : PieceId) (rows : List Row) (row : Row) (b : Bool) → row_in (cond b rows (without (vector_piece key old) rows)) id ≡ Some row → row_in rows id ≡ Some row
earlier_by key put old id rows row true h = h
earlier_by key put old id rows row false h = (left (vector_piece key old) id rows row h).1

left_earlier : (key : Key) (put : ℕ) (last : Option LastVector) (id : PieceId) (rows : List Row) (row : Row) → row_in (without_earlier key put last rows) id ≡ Some row → row_in rows id ≡ Some row
left_earlier key put (Some (Complete old)) id rows row h = earlier_by key put old id rows row (old == put) h
left_earlier key put (Some (TakenOut old)) id rows row h = h
left_earlier key put None id rows row h = h

module _ (id : PieceId) (there : ℕ) where
  abbrev pub StandsAt : State → Type 0
  StandsAt s = (row : Row) × (row_of s id ≡ Some row) × (row.place ≡ there)

  placed_by : (s : State) (now : Option Row) (piece : PieceId) (own row : Row) (b : Bool) → same_piece piece id ≡ b → now ≡ cond b (Some own) (row_of s id) → now ≡ Some row → row.place ≡ there
      → (StandsAt s × (piece ≡ id → ⊥)) ⊎ ((piece ≡ id) × (own.place ≡ there))
  placed_by s now piece own row true e is found at =
      let same : own ≡ row = same_some own row now is found in
      inr (same_piece-true piece id e, ap (λ (r : Row). r.place) same ∙ at)
  placed_by s now piece own row false e is found at = inl ((row, sym is ∙ found, at), other_piece id piece e)

  copied_by : (s : State) (now : Option Row) (piece : PieceId) (place : ℕ) (digest : Digest) (row : Row) (o : Option Row) (b : Bool) → same_piece piece id ≡ b → row_of s id ≡ o
      → now ≡ cond b (option_map (moved_row place digest) o) o → now ≡ Some row → row.place ≡ there
      → (StandsAt s × (piece ≡ id → ⊥)) ⊎ ((piece ≡ id) × (place ≡ there))
  copied_by s now piece place digest row None true e f is found at = none_is (sym is ∙ found)
  copied_by s now piece place digest row (Some old) true e f is found at =
      let same : moved_row place digest old ≡ row = same_some (moved_row place digest old) row now is found in
      inr (same_piece-true piece id e, ap (λ (r : Row). r.place) same ∙ at)
  copied_by s now piece place digest row o false e f is found at = inl ((row, f ∙ (sym is ∙ found), at), other_piece id piece e)

  lost_by : (s : State) (piece : PieceId) (row : Row) → row_in (without piece s.rows) id ≡ Some row → row.place ≡ there → StandsAt s × (piece ≡ id → ⊥)
  lost_by s piece row found at = let l = left piece id s.rows row found in ((row, l.1, at), other_piece id piece l.0)

  pub stands_at_by : (p : Permit) (s : State) (r : Rec) → IsKept p r → StandsAt (state_after s r) → ByRecord StandsAt (BringsTo id there) (Shifts id) s r
  stands_at_by p s (rec.Formatted geometry) kept h = absurd kept
  stands_at_by p s (rec.Opened geometry serial cursor floor next_put clean list) kept h = absurd kept
  stands_at_by p s (rec.Placed piece place blocks digest pin) kept h =
      let own : Row = placed_row s piece place blocks digest pin in
      placed_by s (row_of (state_after s (rec.Placed piece place blocks digest pin)) id) piece own h.0 (same_piece piece id) refl (row_in-placed id s.rows own) h.1 h.2
  stands_at_by p s (rec.Moved piece from place digest) kept h =
      copied_by s (row_of (state_after s (rec.Moved piece from place digest)) id) piece place digest h.0 (row_of s id) (same_piece piece id) refl refl (row_in-copied piece id s.rows place digest) h.1 h.2
  stands_at_by p s (rec.Displaced piece segment live) kept h = inl (lost_by s piece h.0 h.1 h.2)
  stands_at_by p s (rec.Damaged piece place kept_as found) kept h = inl (lost_by s piece h.0 h.1 h.2)
  stands_at_by p s (rec.Committed put key bytes list) kept h = inl ((h.0, left_earlier key put (last_vector s key) id s.rows h.0 h.1, h.2), λ none. none)
  stands_at_by p s (rec.Removed put key) kept h = inl ((h.0, (left (vector_piece key put) id s.rows h.0 h.1).1, h.2), λ none. none)
  stands_at_by p s _ kept h = inl (h, λ none. none)

-- ---- what stays

module _ (there : ℕ) where
  abbrev pub IsUnsaved : State → Type 0
  IsUnsaved s = is_unsaved s there ≡ true

  unsaved_by : (s : State) (place : ℕ) (b : Bool) → (place == there) ≡ b → (b || is_unsaved s there) ≡ true → (IsUnsaved s × (⊥ → ⊥)) ⊎ (place ≡ there)
  unsaved_by s place true e h = inr (eqb-true place there e)
  unsaved_by s place false e h = inl (h, λ none. none)

  pub left_at_by : (p : Permit) (s : State) (r : Rec) → IsKept p r → IsUnsaved (state_after s r) → ByRecord IsUnsaved (LeavesAt there) (λ told. ⊥) s r
  left_at_by p s (rec.Formatted geometry) kept h = absurd kept
  left_at_by p s (rec.Opened geometry serial cursor floor next_put clean list) kept h = absurd kept
  left_at_by p s (rec.Unsaved piece place fault) kept h = unsaved_by s place (place == there) refl h
  left_at_by p s _ kept h = inl (h, λ none. none)
