-- A whole table: each answer of the reading, and the two directions.
use Rattle.std.proofs.Common.{◌≡◌, ℕ, ◌+◌, ◌*◌, ◌<◌, ◌≤◌, Bool, true, false, cond, ltb, eqb, List, ◌++◌, length, take, drop, Result, Ok, Err, refl, sym, ap, subst, ◌∙◌, arith, length-append, length-drop}
use Rattle.std.specs.Prelude.{◌&&◌, ◌||◌, IfOk, IsTrue}
use Rattle.std.specs.List.{flat_map}
use Rattle.std.specs.Int.{w32, to_le_bytes}
use Rattle.std.proofs.Math.Seq.{take-add}
use Rattle.std.proofs.lemmas.Bool.{ltb-true, ltb-false, le-ltb, eqb-true, eq-eqb}
use Rattle.std.proofs.lemmas.Nat.{from_le_bytes-to_le_bytes_4}
use Rattle.fragment_table.specs.declared.fault.TableFault.{TableFault}
use Rattle.fragment_table.specs.declared.fault.TableFault.TheVariants.{Short, Count, Sum}
use Rattle.fragment_table.specs.Table.{TableRow, Table, AreRows, row_bytes, table_bytes, total_length}
use Rattle.fragment_table.specs.Reading.{Gives, HasSum, IsReadFrom, has_sum, is_cut, none_empty, read_table, rows_in_bytes, told_count, told_length, told_rows}
use Rattle.hex.specs.Hex.{IsBytes}
use Rattle.tape_base.proofs.Bytes.{IsBytes-drop}
use Rattle.fragment_table.proofs.Rows.{four_back, rows_read, length-rows, rows_again, none_empty_rows}

abbrev Found : Type 0
Found = List TableRow × ℕ

-- the answer of three tests in order
abbrev picked : Bool → Bool → Bool → Found → Result Found TableFault
picked cut many sum found = cond cut (Err Short) (cond many (Err Count) (cond sum (Ok found) (Err Sum)))

picked_short : (cut many sum : Bool) (found : Found) → picked cut many sum found ≡ Err Short → cut ≡ true
picked_short true many sum found h = refl
picked_short false true sum found h = absurd cc
picked_short false false true found h = absurd cc
picked_short false false false found h = absurd cc

picked_count : (cut many sum : Bool) (found : Found) → picked cut many sum found ≡ Err Count → many ≡ true
picked_count true many sum found h = absurd cc
picked_count false true sum found h = refl
picked_count false false true found h = absurd cc
picked_count false false false found h = absurd cc

picked_sum : (cut many sum : Bool) (found : Found) → picked cut many sum found ≡ Err Sum → sum ≡ false
picked_sum true many sum found h = absurd cc
picked_sum false true sum found h = absurd cc
picked_sum false false true found h = absurd cc
picked_sum false false false found h = refl

record IsPicked (cut many sum : Bool) (found answer : Found) : Type 0 where
  long : cut ≡ false
  few : many ≡ false
  fits : sum ≡ true
  same : found ≡ answer

picked_ok : (cut many sum : Bool) (found answer : Found) → picked cut many sum found ≡ Ok answer → IsPicked cut many sum found answer
picked_ok true many sum found answer h = absurd cc
picked_ok false true sum found answer h = absurd cc
picked_ok false false true found answer h = record { long = refl; few = refl; fits = refl; same = cc }
picked_ok false false false found answer h = absurd cc

picked_from : (cut many sum : Bool) (found answer : Found) → cut ≡ false → many ≡ false → sum ≡ true → found ≡ answer → picked cut many sum found ≡ Ok answer
picked_from cut many sum found answer long few fits same = rw (long, few, fits, same) refl

neither : (a b : Bool) → a ≡ false → b ≡ false → (a || b) ≡ false
neither a b h k = rw (h, k) refl

either_false : (a b : Bool) → (a || b) ≡ false → (a ≡ false) × (b ≡ false)
either_false true b h = absurd cc
either_false false b h = (refl, h)

both_true : (a b : Bool) → (a && b) ≡ true → (a ≡ true) × (b ≡ true)
both_true true b h = (refl, h)
both_true false b h = absurd cc

pub short_cause : (bytes : List ℕ) (total : ℕ) → read_table bytes total ≡ Err Short → IsTrue (is_cut bytes)
unfolding read_table
short_cause bytes total h = picked_short (is_cut bytes) (ltb 4096 (told_count bytes)) (has_sum total (told_rows bytes)) (told_rows bytes, told_length bytes) h

pub count_cause : (bytes : List ℕ) (total : ℕ) → read_table bytes total ≡ Err Count → 4096 < told_count bytes
unfolding read_table
count_cause bytes total h = ltb-true _ _ (picked_count (is_cut bytes) (ltb 4096 (told_count bytes)) (has_sum total (told_rows bytes)) (told_rows bytes, told_length bytes) h)

pub sum_cause : (bytes : List ℕ) (total : ℕ) → read_table bytes total ≡ Err Sum → HasSum total (told_rows bytes) → ⊥
unfolding read_table
sum_cause bytes total h held =
    let not_held = picked_sum (is_cut bytes) (ltb 4096 (told_count bytes)) (has_sum total (told_rows bytes)) (told_rows bytes, told_length bytes) h in
    cc

spelled : (bytes : List ℕ) (total : ℕ) (answer : Found) → IsBytes bytes → read_table bytes total ≡ Ok answer → IsReadFrom bytes total answer.0 answer.1
unfolding read_table
spelled bytes total answer fits h =
    let p = picked_ok (is_cut bytes) (ltb 4096 (told_count bytes)) (has_sum total (told_rows bytes)) (told_rows bytes, told_length bytes) answer h in
    let long = either_false (ltb (length bytes) 4) (ltb (length bytes) (told_length bytes)) p.long in
    let four : 4 ≤ length bytes = ltb-false _ _ long.0 in
    let whole : told_length bytes ≤ length bytes = ltb-false _ _ long.1 in
    let few : told_count bytes ≤ 4096 = ltb-false _ _ p.few in
    let sum = both_true (none_empty (told_rows bytes)) (eqb (total_length (told_rows bytes)) total) p.fits in
    let read = rows_read (told_count bytes) (drop 4 bytes) (omega (arith, whole, length-drop 4 bytes)) (IsBytes-drop 4 bytes fits) sum.0 in
    let front : take 4 bytes ≡ to_le_bytes w32 (length (told_rows bytes)) = sym (four_back bytes four fits) ∙ ap (to_le_bytes w32) (sym read.count) in
    let spelling : take (told_length bytes) bytes ≡ table_bytes (told_rows bytes) =
    take-add 4 (36 * told_count bytes) bytes ∙ ap (λ (r : List ℕ). take 4 bytes ++ r) read.spelling ∙ ap (λ (f : List ℕ). f ++ flat_map row_bytes (told_rows bytes)) front in
    let made : IsReadFrom bytes total (told_rows bytes) (told_length bytes) = record {
      rows = record { few = omega (arith, few, read.count); each = read.each };
      sum = eqb-true _ _ sum.1;
      spelling = spelling;
    } in
    subst (λ (found : Found). IsReadFrom bytes total found.0 found.1) p.same made

pub is_spelled : (bytes : List ℕ) (total : ℕ) (r : Result (Table × ℕ) TableFault) → IsBytes bytes → Gives r (read_table bytes total) → IfOk r (λ read. IsReadFrom bytes total read.0.rows read.1)
is_spelled bytes total (Ok x) fits h = spelled bytes total (x.0.rows, x.1) fits h
is_spelled bytes total (Err e) fits h = tt

length-table : (rows : List TableRow) → AreRows rows → length (table_bytes rows) ≡ 4 + 36 * length rows
length-table rows valid = let e = length-rows rows valid.each in omega (arith, e)

-- what is spelled so is read, whatever follows
pub table_again : (rows : List TableRow) (rest : List ℕ) → AreRows rows → read_table (table_bytes rows ++ rest) (total_length rows) ≡ Ok (rows, length (table_bytes rows))
unfolding read_table
table_again rows rest valid =
    let bytes = table_bytes rows ++ rest in
    let count : told_count bytes ≡ length rows = from_le_bytes-to_le_bytes_4 (length rows) (omega (arith, valid.few)) in
    let size = length-table rows valid in
    let long : length bytes ≡ 4 + 36 * length rows + length rest = length-append (table_bytes rows) rest ∙ ap (λ (n : ℕ). n + length rest) size in
    let four : ltb (length bytes) 4 ≡ false = le-ltb _ _ (omega (arith, long)) in
    let whole : ltb (length bytes) (told_length bytes) ≡ false = le-ltb _ _ (omega (arith, long, count)) in
    let few : ltb 4096 (told_count bytes) ≡ false = le-ltb _ _ (omega (arith, count, valid.few)) in
    let again : told_rows bytes ≡ rows = ap (λ (n : ℕ). rows_in_bytes n (flat_map row_bytes rows ++ rest)) count ∙ rows_again rows rest valid.each in
    let full : none_empty rows ≡ true = none_empty_rows rows valid.each in
    let same : eqb (total_length rows) (total_length rows) ≡ true = eq-eqb _ _ refl in
    let sum : has_sum (total_length rows) (told_rows bytes) ≡ true = ap (has_sum (total_length rows)) again ∙ ap (λ (b : Bool). b && eqb (total_length rows) (total_length rows)) full ∙ same in
    let taken : told_length bytes ≡ length (table_bytes rows) = omega (arith, count, size) in
    picked_from (is_cut bytes) (ltb 4096 (told_count bytes)) (has_sum (total_length rows) (told_rows bytes)) (told_rows bytes, told_length bytes) (rows, length (table_bytes rows))
    (neither _ _ four whole) few sum (ap (λ (rs : List TableRow). (rs, told_length bytes)) again ∙ ap (λ (n : ℕ). (rows, n)) taken)
