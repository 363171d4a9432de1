-- The end of a fragment is the sum of the lengths up to it.
use Rattle.std.proofs.Common.{◌≡◌, ℕ, zero, suc, ◌+◌, ◌-◌, ◌*◌, ◌^◌, ◌<◌, ◌≤◌, List, [], ◌∷◌, ◌++◌, length, take, slice_get, Some, sym, subst, arith, length-append}
use Rattle.std.specs.List.{AllByRecursion}
use Rattle.std.proofs.lemmas.List.{take_all, map_push}
use Rattle.std.proofs.lemmas.List.Sums.{sum_by-append}
use Rattle.std.proofs.lemmas.Option.{slice_get_within}
use Rattle.fragment_table.specs.declared.table.FragmentRow.{FragmentRow}
use Rattle.fragment_table.specs.Table.{TableRow, IsRow, AreRows, total_length}
use Rattle.fragment_table.specs.Kept.{table_row_of, table_rows_of, EndsFrom, AreKept}

pub total-cons : (row : TableRow) (rows : List TableRow) → total_length (row ∷ rows) ≡ row.length + total_length rows
total-cons row rows = let e = sum_by-append (λ (r : TableRow). r.length) (row ∷ []) rows in omega (arith, e)

pub end_at : (start : ℕ) (rows : List FragmentRow) (k : ℕ) (row : FragmentRow) → EndsFrom start rows → slice_get rows k ≡ Some row → row.end ≡ start + total_length (table_rows_of (take (suc k) rows))
end_at start [] k row ends h = absurd cc
end_at start (x ∷ xs) zero row ends h =
    let same : x ≡ row = cc in
    subst (λ (r : FragmentRow). r.end ≡ start + (0 + x.length)) same (omega (arith, ends.0))
end_at start (x ∷ xs) (suc k) row ends h =
    let rest = end_at x.end xs k row ends.1 h in
    let whole = total-cons (table_row_of x) (table_rows_of (take (suc k) xs)) in
    omega (arith, ends.0, rest, whole)

-- the end of the last fragment is the length of the body
pub last_end : (rows : List FragmentRow) (row : FragmentRow) → EndsFrom 0 rows → slice_get rows (length rows - 1) ≡ Some row → row.end ≡ total_length (table_rows_of rows)
last_end rows row ends h =
    let within : length rows - 1 < length rows = slice_get_within rows (length rows - 1) row h in
    let e = end_at 0 rows (length rows - 1) row ends h in
    let all : take (suc (length rows - 1)) rows ≡ rows = take_all (suc (length rows - 1)) rows (omega arith) in
    subst (λ (front : List FragmentRow). row.end ≡ total_length (table_rows_of front)) all (omega (arith, e))

pub ends_take : (start : ℕ) (n : ℕ) (rows : List FragmentRow) → EndsFrom start rows → EndsFrom start (take n rows)
ends_take start zero rows ends = tt
ends_take start (suc n) [] ends = tt
ends_take start (suc n) (x ∷ xs) ends = (ends.0, ends_take x.end n xs ends.1)

ends_push : (start : ℕ) (rows : List FragmentRow) (row : FragmentRow) → EndsFrom start rows → row.end ≡ start + total_length (table_rows_of rows) + row.length → EndsFrom start (rows ++ row ∷ [])
ends_push start [] row ends h = (omega (arith, h), tt)
ends_push start (x ∷ xs) row ends h =
    let whole = total-cons (table_row_of x) (table_rows_of xs) in
    (ends.0, ends_push x.end xs row ends.1 (omega (arith, ends.0, h, whole)))

each_push : {X : Type 0} (P : X → Type 0) (xs : List X) (y : X) → AllByRecursion P xs → P y → AllByRecursion P (xs ++ y ∷ [])
each_push P [] y h p = (p, tt)
each_push P (x ∷ xs) y h p = (h.0, each_push P xs y h.1 p)

pub rows_push : (rows : List TableRow) (row : TableRow) → AreRows rows → length rows < 4096 → IsRow row → AreRows (rows ++ row ∷ [])
rows_push rows row valid few fits = record {
  few = omega (arith, length-append rows (row ∷ []));
  each = each_push IsRow rows row valid.each fits;
}

-- a row whose end is right may follow
pub kept_push : (rows : List FragmentRow) (row : FragmentRow) → AreKept rows → length (table_rows_of rows) < 4096 → IsRow (table_row_of row) → row.end ≡ total_length (table_rows_of rows) + row.length → AreKept (rows ++ row ∷ [])
kept_push rows row kept few fits end_is = record {
  valid = subst AreRows (sym (map_push table_row_of rows row)) (rows_push (table_rows_of rows) (table_row_of row) kept.valid few fits);
  ends = ends_push 0 rows row kept.ends (omega (arith, end_is));
}

total_each : (rows : List TableRow) → AllByRecursion IsRow rows → total_length rows ≤ 2 ^ 32 * length rows
total_each [] each = omega arith
total_each (row ∷ rows) each =
    let rest = total_each rows each.1 in
    let whole = total-cons row rows in
    omega (arith, each.0.short, rest, whole)

-- a body has less than 2^44 bytes
pub total_small : (rows : List TableRow) → AreRows rows → total_length rows ≤ 2 ^ 44
total_small rows valid = let each = total_each rows valid.each in omega (arith, each, valid.few)
