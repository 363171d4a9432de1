-- Where the fragment of an offset stands among the ends.
use Rattle.std.proofs.Common.{◌≡◌, ℕ, zero, suc, ◌+◌, ◌-◌, ◌<◌, ◌≤◌, Bool, true, false, cond, ltb, leb, List, [], ◌∷◌, length, take, get_or, Option, Some, None, refl, ap, ◌∙◌, arith}
use Rattle.std.specs.Prelude.{IsNone, option_map}
use Rattle.std.specs.List.{AllWithin}
use Rattle.std.specs.List.Sorted.{IsPartitionedBy}
use Rattle.std.proofs.lemmas.Bool.{ltb-false, le-ltb, lt-ltb, leb-true, leb-false, le-leb}
use Rattle.fragment_table.specs.declared.table.FragmentRow.{FragmentRow}
use Rattle.fragment_table.specs.Table.{TableRow, total_length, fragment_at, next_fragment}
use Rattle.fragment_table.specs.Kept.{table_row_of, table_rows_of, EndsFrom}
use Rattle.fragment_table.proofs.Ends.{total-cons}

above_start : (start : ℕ) (rows : List FragmentRow) (k : ℕ) (d : FragmentRow) → EndsFrom start rows → k < length rows → start ≤ (get_or rows k d).end
above_start start [] k d ends lt = absurd (omega (arith, lt))
above_start start (x ∷ xs) zero d ends lt = omega (arith, ends.0)
above_start start (x ∷ xs) (suc k) d ends lt =
    let rest = above_start x.end xs k d ends.1 (omega (arith, lt)) in
    omega (arith, ends.0, rest)

ends_rise : (start : ℕ) (rows : List FragmentRow) (i j : ℕ) (d : FragmentRow) → EndsFrom start rows → i ≤ j → j < length rows → (get_or rows i d).end ≤ (get_or rows j d).end
ends_rise start [] i j d ends le lt = absurd (omega (arith, lt))
ends_rise start (x ∷ xs) zero zero d ends le lt = omega arith
ends_rise start (x ∷ xs) zero (suc j) d ends le lt = above_start x.end xs j d ends.1 (omega (arith, lt))
ends_rise start (x ∷ xs) (suc i) zero d ends le lt = absurd (omega (arith, le))
ends_rise start (x ∷ xs) (suc i) (suc j) d ends le lt = ends_rise x.end xs i j d ends.1 (omega (arith, le)) (omega (arith, lt))

abbrev pub ends_by : ℕ → FragmentRow → Bool
ends_by offset row = leb row.end offset

-- the fragments that end by an offset come first
pub ends_parted : (rows : List FragmentRow) (offset : ℕ) → EndsFrom 0 rows → IsPartitionedBy (ends_by offset) rows
ends_parted rows offset ends i j d le lt h =
    let high : (get_or rows j d).end ≤ offset = leb-true _ _ h in
    let rise = ends_rise 0 rows i j d ends le lt in
    le-leb _ _ (omega (arith, high, rise))

-- where i fragments end by the offset and the next one does not, that one has it
pub found_at : (start : ℕ) (rows : List FragmentRow) (i offset : ℕ) (d : FragmentRow) → EndsFrom start rows → start ≤ offset → ((k : ℕ) → k < i → (get_or rows k d).end ≤ offset) → i < length rows → offset < (get_or rows i d).end
    → (start + total_length (table_rows_of (take i rows)) ≤ offset) × (fragment_at (table_rows_of rows) (offset - start) ≡ Some (i + 1, offset - (start + total_length (table_rows_of (take i rows)))))
found_at start [] i offset d ends le before lt at = absurd (omega (arith, lt))
found_at start (x ∷ xs) zero offset d ends le before lt at =
    let short : ltb (offset - start) x.length ≡ true = lt-ltb _ _ (omega (arith, ends.0, le, at)) in
    (omega (arith, le), rw short (ap (λ (n : ℕ). Some (1, n)) (omega (arith, le))))
found_at start (x ∷ xs) (suc i) offset d ends le before lt at =
    let past : x.end ≤ offset = before 0 (omega arith) in
    let long : ltb (offset - start) x.length ≡ false = le-ltb _ _ (omega (arith, ends.0, past)) in
    let rest = found_at x.end xs i offset d ends.1 past (λ k l. before (suc k) (omega (arith, l))) (omega (arith, lt)) at in
    let whole = total-cons (table_row_of x) (table_rows_of (take i xs)) in
    let same : offset - start - x.length ≡ offset - x.end = omega (arith, ends.0) in
    let shifted : offset - (x.end + total_length (table_rows_of (take i xs))) ≡ offset - (start + total_length (table_rows_of (take (suc i) (x ∷ xs)))) = omega (arith, ends.0, whole) in (
      omega (arith, ends.0, whole, rest.0),
      rw (long, same, rest.1) (ap (λ (n : ℕ). Some (i + 1 + 1, n)) shifted ∙ ap (λ (n : ℕ). Some (n, offset - (start + total_length (table_rows_of (take (suc i) (x ∷ xs)))))) (omega arith)),
    )

-- where all fragments end by the offset, none has it
pub found_none : (start : ℕ) (rows : List FragmentRow) (offset : ℕ) (d : FragmentRow) → EndsFrom start rows → start ≤ offset → ((k : ℕ) → k < length rows → (get_or rows k d).end ≤ offset) → fragment_at (table_rows_of rows) (offset - start) ≡ None
found_none start [] offset d ends le all = refl
found_none start (x ∷ xs) offset d ends le all =
    let past : x.end ≤ offset = all 0 (omega arith) in
    let long : ltb (offset - start) x.length ≡ false = le-ltb _ _ (omega (arith, ends.0, past)) in
    let rest = found_none x.end xs offset d ends.1 past (λ k l. all (suc k) (omega (arith, l))) in
    let same : offset - start - x.length ≡ offset - x.end = omega (arith, ends.0) in
    rw (long, same, rest) refl

step_none : (found : Option (ℕ × ℕ)) → IsNone found → IsNone (option_map next_fragment found)
step_none None h = refl
step_none (Some x) h = h

step_none_back : (found : Option (ℕ × ℕ)) → IsNone (option_map next_fragment found) → IsNone found
step_none_back None h = refl
step_none_back (Some x) h = h

-- no fragment has an offset exactly where the body ends before it
pub none_past : (rows : List TableRow) (offset : ℕ) → total_length rows ≤ offset → IsNone (fragment_at rows offset)
none_past [] offset le = refl
none_past (row ∷ rows) offset le =
    let whole = total-cons row rows in
    let long : ltb offset row.length ≡ false = le-ltb _ _ (omega (arith, le, whole)) in
    rw long (step_none (fragment_at rows (offset - row.length)) (none_past rows (offset - row.length) (omega (arith, le, whole))))

pub past_none : (rows : List TableRow) (offset : ℕ) → IsNone (fragment_at rows offset) → total_length rows ≤ offset
past_none [] offset h = omega arith
past_none (row ∷ rows) offset h =
    let whole = total-cons row rows in
    elim (ltb offset row.length) as (λ b. ltb offset row.length ≡ b → IsNone (cond b (Some (1, offset)) (option_map next_fragment (fragment_at rows (offset - row.length)))) → total_length (row ∷ rows) ≤ offset) [
      | true ↦ λ e n. absurd cc
      | false ↦ λ e n. let rest = past_none rows (offset - row.length) (step_none_back (fragment_at rows (offset - row.length)) n) in omega (arith, ltb-false _ _ e, rest, whole)
    ] refl h

sub-zero : (n : ℕ) → n ≡ n - 0
sub-zero n = omega arith

-- any row, to read a list with
some_row : FragmentRow
some_row = record { length = 0; digest = []; end = 0 }

-- what a binary search by the ends tells
abbrev pub IsPoint : List FragmentRow → ℕ → ℕ → Type 0
IsPoint rows offset i = AllWithin (λ row. ends_by offset row ≡ true) rows 0 i × AllWithin (λ row. ends_by offset row ≡ false) rows i (length rows)

pub point_none : (rows : List FragmentRow) (offset i : ℕ) → EndsFrom 0 rows → IsPoint rows offset i → i ≡ length rows → fragment_at (table_rows_of rows) offset ≡ None
point_none rows offset i ends point all =
    let none = found_none 0 rows offset some_row ends (omega arith) (λ k l. leb-true _ _ (point.0 k some_row (omega arith) (omega (arith, l, all)))) in
    ap (fragment_at (table_rows_of rows)) (sub-zero offset) ∙ none

pub point_found : (rows : List FragmentRow) (offset i : ℕ) → EndsFrom 0 rows → IsPoint rows offset i → i < length rows
    → (total_length (table_rows_of (take i rows)) ≤ offset) × (fragment_at (table_rows_of rows) offset ≡ Some (i + 1, offset - total_length (table_rows_of (take i rows))))
point_found rows offset i ends point lt =
    let found = found_at 0 rows i offset some_row ends (omega arith) (λ k l. leb-true _ _ (point.0 k some_row (omega arith) l)) lt (leb-false _ _ (point.1 i some_row (omega arith) lt)) in
    let same : 0 + total_length (table_rows_of (take i rows)) ≡ total_length (table_rows_of (take i rows)) = omega arith in (
      omega (arith, found.0),
      ap (fragment_at (table_rows_of rows)) (sub-zero offset) ∙ found.1
          ∙ ap (λ (n : ℕ). Some (i + 1, offset - n)) same,
    )
