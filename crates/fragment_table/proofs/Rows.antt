-- Rows that are read one after the other are spelled so, and the other way round.
use Rattle.std.proofs.Common.{◌≡◌, ℕ, zero, suc, ◌+◌, ◌-◌, ◌*◌, ◌^◌, ◌<◌, ◌≤◌, Bool, true, false, ltb, List, [], ◌∷◌, ◌++◌, length, take, drop, refl, sym, ap, subst, ◌∙◌, append_assoc, arith, length-append, length-drop}
use Rattle.std.specs.Prelude.{◌&&◌}
use Rattle.std.specs.List.{flat_map, AllByRecursion}
use Rattle.std.specs.Int.{w32, to_le_bytes, from_le_bytes}
use Rattle.std.proofs.Math.Seq.{take-add}
use Rattle.std.proofs.lemmas.Bool.{ltb-true, lt-ltb}
use Rattle.std.proofs.lemmas.List.{take_at, drop_at, length-take}
use Rattle.std.proofs.lemmas.List.Concat.{flat_map-cons}
use Rattle.std.proofs.lemmas.List.Folds.{list_all-append}
use Rattle.std.proofs.lemmas.Nat.{le_bytes_4, from_le_bytes-to_le_bytes_4}
use Rattle.hex.specs.Hex.{IsBytes}
use Rattle.tape_base.proofs.Bytes.{IsBytes-drop, IsBytes-take, IsBytes-append, le_bytes-small, IsBytes-nil}
use Rattle.fragment_table.specs.Table.{TableRow, made_row, IsRow, AreRows, row_bytes, table_bytes}
use Rattle.fragment_table.specs.Reading.{row_in_bytes, rows_in_bytes, none_empty}

-- four bytes are those of the number that they spell
pub four_back : (bytes : List ℕ) → 4 ≤ length bytes → IsBytes bytes → to_le_bytes w32 (from_le_bytes w32 (take 4 bytes)) ≡ take 4 bytes
four_back bytes long fits = le_bytes_4 (take 4 bytes) (from_le_bytes w32 (take 4 bytes)) (omega (arith, length-take 4 bytes)) (IsBytes-take 4 bytes fits) refl

pub four_small : (bytes : List ℕ) → IsBytes bytes → from_le_bytes w32 (take 4 bytes) < 2 ^ 32
four_small bytes fits = let h = IsBytes-take 4 bytes fits in omega (arith, h 0, h 1, h 2, h 3)

row_back : (bytes : List ℕ) → 36 ≤ length bytes → IsBytes bytes → row_bytes (row_in_bytes bytes) ≡ take 36 bytes
row_back bytes long fits = ap (λ (front : List ℕ). front ++ take 32 (drop 4 bytes)) (four_back bytes (omega arith) fits) ∙ sym (take-add 4 32 bytes)

row_is : (bytes : List ℕ) → 36 ≤ length bytes → IsBytes bytes → 0 < (row_in_bytes bytes).length → IsRow (row_in_bytes bytes)
row_is bytes long fits some = record { some = some; short = four_small bytes fits; digest = omega (arith, length-take 32 (drop 4 bytes), length-drop 4 bytes); bytes = IsBytes-take 32 (drop 4 bytes) (IsBytes-drop 4 bytes fits) }

both_true : (a b : Bool) → (a && b) ≡ true → (a ≡ true) × (b ≡ true)
both_true true b h = (refl, h)
both_true false b h = absurd cc

-- what rows that were read are
pub record AreRead (n : ℕ) (bytes : List ℕ) (rows : List TableRow) : Type 0 where
  pub count : length rows ≡ n
  pub each : AllByRecursion IsRow rows
  pub spelling : take (36 * n) bytes ≡ flat_map row_bytes rows

pub rows_read : (n : ℕ) (bytes : List ℕ) → 36 * n ≤ length bytes → IsBytes bytes → none_empty (rows_in_bytes n bytes) ≡ true → AreRead n bytes (rows_in_bytes n bytes)
rows_read zero bytes long fits full = record { count = refl; each = tt; spelling = refl }
rows_read (suc n) bytes long fits full =
    let parts = both_true (ltb 0 (row_in_bytes bytes).length) (none_empty (rows_in_bytes n (drop 36 bytes))) full in
    let rest = rows_read n (drop 36 bytes) (omega (arith, length-drop 36 bytes)) (IsBytes-drop 36 bytes fits) parts.1 in
    let whole : 36 * suc n ≡ 36 + 36 * n = omega arith in
    let front = row_back bytes (omega arith) fits in
    record {
      count = ap suc rest.count;
      each = (row_is bytes (omega arith) fits (ltb-true _ _ parts.0), rest.each);
      spelling = ap (λ (k : ℕ). take k bytes) whole ∙ take-add 36 (36 * n) bytes ∙ ap (λ (f : List ℕ). f ++ take (36 * n) (drop 36 bytes)) (sym front) ∙ ap (λ (r : List ℕ). row_bytes (row_in_bytes bytes) ++ r) rest.spelling ∙ sym (flat_map-cons row_bytes (row_in_bytes bytes) (rows_in_bytes n (drop 36 bytes)));
    }

length-row_bytes : (row : TableRow) → IsRow row → length (row_bytes row) ≡ 36
length-row_bytes row fits = omega (arith, fits.digest)

pub length-rows : (rows : List TableRow) → AllByRecursion IsRow rows → length (flat_map row_bytes rows) ≡ 36 * length rows
length-rows [] each = refl
length-rows (row ∷ rows) each =
    let rest = length-rows rows each.1 in
    let one = length-row_bytes row each.0 in
    ap length (flat_map-cons row_bytes row rows) ∙ length-append (row_bytes row) (flat_map row_bytes rows) ∙ omega (arith, one, rest)

row_again : (row : TableRow) (rest : List ℕ) → IsRow row → row_in_bytes (row_bytes row ++ rest) ≡ row
row_again row rest fits =
    let n : from_le_bytes w32 (to_le_bytes w32 row.length) ≡ row.length = from_le_bytes-to_le_bytes_4 row.length fits.short in
    let d : take 32 (row.digest ++ rest) ≡ row.digest = take_at row.digest rest 32 fits.digest in
    ap (λ (k : ℕ). made_row k (take 32 (row.digest ++ rest))) n ∙ ap (made_row row.length) d

-- what is spelled so is read
pub rows_again : (rows : List TableRow) (rest : List ℕ) → AllByRecursion IsRow rows → rows_in_bytes (length rows) (flat_map row_bytes rows ++ rest) ≡ rows
rows_again [] rest each = refl
rows_again (row ∷ rows) rest each =
    let after = flat_map row_bytes rows ++ rest in
    let grouped : flat_map row_bytes (row ∷ rows) ++ rest ≡ row_bytes row ++ after = ap (λ (x : List ℕ). x ++ rest) (flat_map-cons row_bytes row rows) ∙ append_assoc (row_bytes row) (flat_map row_bytes rows) rest in
    let gone : drop 36 (row_bytes row ++ after) ≡ after = drop_at (row_bytes row) after 36 (length-row_bytes row each.0) in
    ap (rows_in_bytes (suc (length rows))) grouped
    ∙ ap (λ (r : TableRow). r ∷ rows_in_bytes (length rows) (drop 36 (row_bytes row ++ after))) (row_again row after each.0)
    ∙ ap (λ (bs : List ℕ). row ∷ rows_in_bytes (length rows) bs) gone
    ∙ ap (λ (rs : List TableRow). row ∷ rs) (rows_again rows rest each.1)

pub none_empty_rows : (rows : List TableRow) → AllByRecursion IsRow rows → none_empty rows ≡ true
none_empty_rows [] each = refl
none_empty_rows (row ∷ rows) each = rw (lt-ltb 0 row.length each.0.some) (none_empty_rows rows each.1)

-- ---- one row after the other

one_more : (n i : ℕ) (rest : List ℕ) → i < n → rows_in_bytes (n - i) rest ≡ row_in_bytes rest ∷ rows_in_bytes (n - (i + 1)) (drop 36 rest)
one_more n i rest lt = ap (λ (k : ℕ). rows_in_bytes k rest) (let k : n - i ≡ suc (n - (i + 1)) = omega arith in k)

pub row_goes_on : (front all : List TableRow) (n i : ℕ) (rest : List ℕ) → i < n → front ++ rows_in_bytes (n - i) rest ≡ all → (front ++ row_in_bytes rest ∷ []) ++ rows_in_bytes (n - (i + 1)) (drop 36 rest) ≡ all
row_goes_on front all n i rest lt so_far =
    append_assoc front (row_in_bytes rest ∷ []) (rows_in_bytes (n - (i + 1)) (drop 36 rest)) ∙ ap (λ (rs : List TableRow). front ++ rs) (sym (one_more n i rest lt)) ∙ so_far

and_false : (a : Bool) → (a && false) ≡ false
and_false true = refl
and_false false = refl

-- a row without bytes is among the rows that are told
pub empty_found : (front all : List TableRow) (n i : ℕ) (rest : List ℕ) → i < n → front ++ rows_in_bytes (n - i) rest ≡ all → (row_in_bytes rest).length ≡ 0 → none_empty all ≡ false
empty_found front all n i rest lt so_far none =
    let more = rows_in_bytes (n - (i + 1)) (drop 36 rest) in
    let whole : front ++ (row_in_bytes rest ∷ more) ≡ all =
    ap (λ (rs : List TableRow). front ++ rs) (sym (one_more n i rest lt)) ∙ so_far in
    let one : none_empty (row_in_bytes rest ∷ more) ≡ false = ap (λ (k : ℕ). ltb 0 k && none_empty more) none in
    ap none_empty (sym whole) ∙ list_all-append (λ row. ltb 0 row.length) front (row_in_bytes rest ∷ more) ∙ ap (λ (b : Bool). none_empty front && b) one ∙ and_false (none_empty front)

pub full_push : (front : List TableRow) (row : TableRow) → none_empty front ≡ true → 0 < row.length → none_empty (front ++ row ∷ []) ≡ true
full_push front row full some =
    list_all-append (λ (r : TableRow). ltb 0 r.length) front (row ∷ []) ∙ ap (λ (b : Bool). b && (ltb 0 row.length && true)) full ∙ ap (λ (b : Bool). b && true) (lt-ltb 0 row.length some)

-- ---- what is spelled is bytes

row_bytes-small : (row : TableRow) → IsRow row → IsBytes (row_bytes row)
row_bytes-small row is = IsBytes-append (to_le_bytes w32 row.length) row.digest (le_bytes-small w32 row.length) is.bytes

rows_bytes-small : (rows : List TableRow) → AllByRecursion IsRow rows → IsBytes (flat_map row_bytes rows)
rows_bytes-small [] each = IsBytes-nil
rows_bytes-small (row ∷ rows) each =
    subst IsBytes (sym (flat_map-cons row_bytes row rows)) (IsBytes-append (row_bytes row) (flat_map row_bytes rows) (row_bytes-small row each.0) (rows_bytes-small rows each.1))

pub table_bytes-small : (rows : List TableRow) → AreRows rows → IsBytes (table_bytes rows)
table_bytes-small rows are =
    IsBytes-append (to_le_bytes w32 (length rows)) (flat_map row_bytes rows) (le_bytes-small w32 (length rows)) (rows_bytes-small rows are.each)
