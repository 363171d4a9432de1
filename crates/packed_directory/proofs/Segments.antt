-- The rows of all segments where those of one change.
use Rattle.std.proofs.Common.{◌≡◌, ℕ, zero, suc, ◌+◌, ◌<◌, List, [], ◌∷◌, ◌++◌, length, get_or, set, subst, arith, append_assoc}
use Rattle.std.specs.List.Sorted.{IsPermutation}
use Rattle.std.proofs.lemmas.List.Sorted.{IsPermutation-sym, IsPermutation-trans, IsPermutation-middle, IsPermutation-append_left, IsPermutation-append_right, IsPermutation-append_comm}
use Rattle.tape_base.specs.declared.geometries.Geometry.{Geometry}
use Rattle.dir_segment.specs.Lists.{Lists}
use Rattle.dir_table.specs.declared.rows.StoredRow.{StoredRow}
use Rattle.packed_directory.specs.StoredRows.{rows_of_segments, stored_rows_of_segment}
use Rattle.dir_table.specs.Entering.{TakesRow}

-- a part in the middle comes to the front
to_front : {X : Type 0} (front mid rest : List X) → IsPermutation (front ++ (mid ++ rest)) (mid ++ (front ++ rest))
to_front front mid rest =
    subst (λ q. IsPermutation (front ++ (mid ++ rest)) q) (append_assoc mid front rest)
    (subst (λ q. IsPermutation q ((mid ++ front) ++ rest)) (append_assoc front mid rest)
    (IsPermutation-append_left rest (front ++ mid) (mid ++ front) (IsPermutation-append_comm front mid)))

-- what one segment makes of its rows, all segments make of theirs
module _ (g : Geometry) (cursor : ℕ) (row : StoredRow) (gone : List StoredRow) (lists none : Lists) where
  pub all_take : (s i : ℕ) (segments : List Lists) → i < length segments
      → TakesRow row gone (stored_rows_of_segment g cursor (s + i) (get_or segments i none)) (stored_rows_of_segment g cursor (s + i) lists)
      → TakesRow row gone (rows_of_segments g cursor s segments) (rows_of_segments g cursor s (set segments i lists))
  all_take s i [] lt p = absurd (omega (arith, lt))
  all_take s zero (l ∷ rest) lt p =
      let place : s + 0 ≡ s = omega arith in
      let p' : TakesRow row gone (stored_rows_of_segment g cursor s l) (stored_rows_of_segment g cursor s lists) =
      subst (λ n. TakesRow row gone (stored_rows_of_segment g cursor n l) (stored_rows_of_segment g cursor n lists)) place p in
      let others : List StoredRow = rows_of_segments g cursor (suc s) rest in
      record {
        left = p'.left ++ others;
        parted = subst (λ (q : List StoredRow). IsPermutation (stored_rows_of_segment g cursor s l ++ others) q)
            (append_assoc gone p'.left others)
            (IsPermutation-append_left others (stored_rows_of_segment g cursor s l) (gone ++ p'.left) p'.parted);
        entered = IsPermutation-append_left others (row ∷ p'.left) (stored_rows_of_segment g cursor s lists) p'.entered;
      }
  all_take s (suc i) (l ∷ rest) lt p =
      let place : s + suc i ≡ suc s + i = omega arith in
      let p' : TakesRow row gone (rows_of_segments g cursor (suc s) rest) (rows_of_segments g cursor (suc s) (set rest i lists)) =
      all_take (suc s) i rest (omega (arith, lt)) (subst (λ n. TakesRow row gone (stored_rows_of_segment g cursor n (get_or rest i none)) (stored_rows_of_segment g cursor n lists)) place p) in
      let front : List StoredRow = stored_rows_of_segment g cursor s l in
      let others : List StoredRow = rows_of_segments g cursor (suc s) rest in
      let others' : List StoredRow = rows_of_segments g cursor (suc s) (set rest i lists) in
      record {
        left = front ++ p'.left;
        parted = IsPermutation-trans (front ++ others) (front ++ (gone ++ p'.left)) (gone ++ (front ++ p'.left))
            (IsPermutation-append_right front others (gone ++ p'.left) p'.parted) (to_front front gone p'.left);
        entered = IsPermutation-trans (row ∷ (front ++ p'.left)) (front ++ row ∷ p'.left) (front ++ others')
            (IsPermutation-sym (front ++ row ∷ p'.left) (row ∷ (front ++ p'.left)) (IsPermutation-middle front row p'.left))
            (IsPermutation-append_right front (row ∷ p'.left) others' p'.entered);
      }
