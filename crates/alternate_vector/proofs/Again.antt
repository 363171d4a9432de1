-- What is spelled so is read, whatever follows.
use Rattle.std.proofs.Common.{◌≡◌, ℕ, suc, ◌^◌, ◌<◌, ◌≤◌, Bool, true, false, ltb, eqb, leb, List, [], ◌∷◌, ◌++◌, length, Result, Ok, refl, sym, ap, ◌∙◌, append_assoc, arith}
use Rattle.std.specs.Prelude.{not, ◌&&◌, bytes_eq}
use Rattle.std.specs.Int.{Width, w16, w32, w64, byte_len, from_le_bytes, to_le_bytes}
use Rattle.std.specs.List.{flat_map, list_all, AllByRecursion}
use Rattle.std.specs.Ordering.{is_eq}
use Rattle.std.specs.Cmp.{tied_itself}
use Rattle.std.specs.Cmp.Lexicographic.{nat_list_cmp_total}
use Rattle.std.proofs.lemmas.Bool.{and_parts, le-ltb, leb-true, ne_eqb}
use Rattle.std.proofs.lemmas.List.{append-nil, take_at, drop_at, length-append}
use Rattle.std.proofs.lemmas.List.Concat.{flat_map-cons}
use Rattle.std.proofs.lemmas.Map.Text.{is_eq-slice_cmp}
use Rattle.std.proofs.lemmas.Nat.{from_le_bytes-to_le_bytes_2, from_le_bytes-to_le_bytes_4, from_le_bytes-to_le_bytes_8}
use Rattle.http_header.specs.Token.{is_token_byte, is_value_byte, lowercase}
use Rattle.fragment_table.specs.Table.{TableRow, AreRows, table_bytes, total_length}
use Rattle.fragment_table.specs.Reading.{read_table}
use Rattle.fragment_table.proofs.Ends.{total_small}
use Rattle.fragment_table.proofs.Whole.{table_again}
use Rattle.alternate_vector.specs.declared.fault.VectorFault.{VectorFault}
use Rattle.alternate_vector.specs.Field.{Field, AreFields, IsKept, IsRising, is_above, is_name}
use Rattle.alternate_vector.specs.Alternates.{Stored, AreStoredAlternates, IsStored}
use Rattle.alternate_vector.specs.Reading.{alternate_at, alternates_at, field_at, fields_at, fields_from, follows, number_at, read_vector, table_at, text_at, told_table}
use Rattle.alternate_vector.specs.Spelling.{alternate_bytes, field_bytes, fields_bytes, vector_bytes}
use Rattle.alternate_vector.proofs.Order.{three}

-- ---- numbers and texts

record IsWide (w : Width) (limit : ℕ) : Type 0 where
  len : (n : ℕ) → length (to_le_bytes w n) ≡ byte_len w
  again : (n : ℕ) → n < limit → from_le_bytes w (to_le_bytes w n) ≡ n

wide16 : IsWide w16 (2 ^ 16)
wide16 = record { len = λ n. refl; again = from_le_bytes-to_le_bytes_2 }

wide32 : IsWide w32 (2 ^ 32)
wide32 = record { len = λ n. refl; again = from_le_bytes-to_le_bytes_4 }

wide64 : IsWide w64 (2 ^ 64)
wide64 = record { len = λ n. refl; again = from_le_bytes-to_le_bytes_8 }

number_again : (w : Width) (limit : ℕ) → IsWide w limit → (n : ℕ) (rest : List ℕ) → n < limit → number_at w (to_le_bytes w n ++ rest) ≡ Ok (n, rest)
number_again w limit wide n rest lt =
    let len = wide.len n in
    let long : ltb (length (to_le_bytes w n ++ rest)) (byte_len w) ≡ false = le-ltb _ _ (omega (arith, len, length-append (to_le_bytes w n) rest)) in
    rw (long, take_at (to_le_bytes w n) rest (byte_len w) len, drop_at (to_le_bytes w n) rest (byte_len w) len, wide.again n lt) refl

text_again : (text rest : List ℕ) → text_at (length text) (text ++ rest) ≡ Ok (text, rest)
text_again text rest =
    let long : ltb (length (text ++ rest)) (length text) ≡ false = le-ltb _ _ (omega (arith, length-append text rest)) in
    rw (long, take_at text rest (length text) refl, drop_at text rest (length text) refl) refl

-- ---- fields

same_name : (name : List ℕ) → bytes_eq name name ≡ true
same_name name = sym (is_eq-slice_cmp name name) ∙ ap is_eq (tied_itself nat_list_cmp_total name)

follows_again : (before name : List ℕ) → is_name name ≡ true → lowercase name ≡ name → is_above before name ≡ false → follows before name ≡ true
follows_again before name is lower order =
    let same : bytes_eq name (lowercase name) ≡ true = ap (bytes_eq name) lower ∙ same_name name in
    ap (λ (b : Bool). b && bytes_eq name (lowercase name) && not (is_above before name)) is
    ∙ ap (λ (b : Bool). true && b && not (is_above before name)) same
    ∙ ap (λ (b : Bool). true && true && not b) order

field_again : (before : List ℕ) (field : Field) (rest : List ℕ) → IsKept field → is_above before field.name ≡ false → field_at before (field_bytes field ++ rest) ≡ Ok (field, rest)
unfolding field_at
field_again before field rest kept order =
    let n = to_le_bytes w16 (length field.name) in
    let v = to_le_bytes w32 (length field.value) in
    let regrouped : field_bytes field ++ rest ≡ n ++ (v ++ (field.name ++ (field.value ++ rest))) =
    append_assoc (n ++ v ++ field.name) field.value rest ∙ append_assoc (n ++ v) field.name (field.value ++ rest) ∙ append_assoc n v (field.name ++ (field.value ++ rest)) in
    let short : length field.name ≤ 256 = leb-true _ _ (three (ltb 0 (length field.name)) (leb (length field.name) 256) (list_all is_token_byte field.name) kept.name).1 in
    let few : length field.value ≤ 8192 = leb-true _ _ (and_parts (leb (length field.value) 8192) (list_all is_value_byte field.value) kept.value).0 in
    ap (field_at before) regrouped
    ∙ rw (
      number_again w16 (2 ^ 16) wide16 (length field.name) (v ++ (field.name ++ (field.value ++ rest))) (omega (arith, short)),
      number_again w32 (2 ^ 32) wide32 (length field.value) (field.name ++ (field.value ++ rest)) (omega (arith, few)),
      text_again field.name (field.value ++ rest),
      follows_again before field.name kept.name kept.lower order,
      text_again field.value rest,
      kept.value,
    ) refl

lines_again : (before : List ℕ) (fields : List Field) (rest : List ℕ) → AllByRecursion IsKept fields → AllByRecursion (λ other. is_above before other.name ≡ false) fields → IsRising fields
    → fields_from (length fields) before (flat_map field_bytes fields ++ rest) ≡ Ok (fields, rest)
unfolding fields_from
lines_again before [] rest each order rising = refl
lines_again before (field ∷ fields) rest each order rising =
    let after = flat_map field_bytes fields ++ rest in
    let regrouped : flat_map field_bytes (field ∷ fields) ++ rest ≡ field_bytes field ++ after = ap (λ (x : List ℕ). x ++ rest) (flat_map-cons field_bytes field fields) ∙ append_assoc (field_bytes field) (flat_map field_bytes fields) rest in
    ap (fields_from (suc (length fields)) before) regrouped ∙ rw (field_again before field after each.0 order.0, lines_again field.name fields rest each.1 rising.0 rising.1) refl

above_nothing : (name : List ℕ) → is_above [] name ≡ false
above_nothing [] = refl
above_nothing (b ∷ name) = refl

-- each name may stand first
each_first : (fields : List Field) → AllByRecursion (λ other. is_above [] other.name ≡ false) fields
each_first [] = tt
each_first (field ∷ fields) = (above_nothing field.name, each_first fields)

fields_again : (fields : List Field) (rest : List ℕ) → AreFields fields → fields_at (fields_bytes fields ++ rest) ≡ Ok (fields, rest)
unfolding fields_at
fields_again fields rest valid =
    let lines = flat_map field_bytes fields ++ rest in
    let regrouped : fields_bytes fields ++ rest ≡ to_le_bytes w16 (length fields) ++ lines = append_assoc (to_le_bytes w16 (length fields)) (flat_map field_bytes fields) rest in
    let few : ltb 128 (length fields) ≡ false = le-ltb _ _ valid.few in
    ap fields_at regrouped ∙ rw (number_again w16 (2 ^ 16) wide16 (length fields) lines (omega (arith, valid.few)), few, lines_again [] fields rest valid.each (each_first fields) valid.rising) refl

-- ---- alternates

abbrev read_rows : List TableRow → List ℕ → Result (List TableRow × List ℕ) VectorFault
read_rows rows rest = Ok (rows, rest)

rows_again : (total : ℕ) (rows : List TableRow) (rest : List ℕ) → AreRows rows → total_length rows ≡ total → table_at total (table_bytes rows ++ rest) ≡ Ok (rows, rest)
rows_again total rows rest valid sum =
    let bytes = table_bytes rows ++ rest in
    ap (told_table bytes) (ap (read_table bytes) (sym sum) ∙ table_again rows rest valid) ∙ ap (read_rows rows) (drop_at (table_bytes rows) rest (length (table_bytes rows)) refl)

alternate_again : (a : Stored) (rest : List ℕ) → IsStored a → alternate_at (alternate_bytes a ++ rest) ≡ Ok (a, rest)
unfolding alternate_at
alternate_again a rest stored =
    let p = to_le_bytes w64 a.put in
    let q = to_le_bytes w64 a.pin in
    let n = to_le_bytes w64 a.length in
    let r = fields_bytes a.request in
    let s = fields_bytes a.response in
    let t = table_bytes a.table in
    let regrouped : alternate_bytes a ++ rest ≡ p ++ (q ++ (n ++ (r ++ (s ++ (t ++ rest))))) =
    append_assoc (p ++ q ++ n ++ r ++ s) t rest ∙ append_assoc (p ++ q ++ n ++ r) s (t ++ rest) ∙ append_assoc (p ++ q ++ n) r (s ++ (t ++ rest))
    ∙ append_assoc (p ++ q) n (r ++ (s ++ (t ++ rest))) ∙ append_assoc p q (n ++ (r ++ (s ++ (t ++ rest)))) in
    let small : a.length < 2 ^ 64 = omega (arith, total_small a.table stored.table, stored.length) in
    ap alternate_at regrouped
    ∙ rw (
      number_again w64 (2 ^ 64) wide64 a.put (q ++ (n ++ (r ++ (s ++ (t ++ rest))))) stored.put,
      number_again w64 (2 ^ 64) wide64 a.pin (n ++ (r ++ (s ++ (t ++ rest)))) stored.pin,
      number_again w64 (2 ^ 64) wide64 a.length (r ++ (s ++ (t ++ rest))) small,
      fields_again a.request (s ++ (t ++ rest)) stored.request,
      fields_again a.response (t ++ rest) stored.response,
      rows_again a.length a.table rest stored.table stored.length,
    ) refl

alternates_again : (alternates : List Stored) (rest : List ℕ) → AllByRecursion IsStored alternates → alternates_at (length alternates) (flat_map alternate_bytes alternates ++ rest) ≡ Ok (alternates, rest)
unfolding alternates_at
alternates_again [] rest each = refl
alternates_again (a ∷ alternates) rest each =
    let after = flat_map alternate_bytes alternates ++ rest in
    let regrouped : flat_map alternate_bytes (a ∷ alternates) ++ rest ≡ alternate_bytes a ++ after = ap (λ (x : List ℕ). x ++ rest) (flat_map-cons alternate_bytes a alternates) ∙ append_assoc (alternate_bytes a) (flat_map alternate_bytes alternates) rest in
    ap (alternates_at (suc (length alternates))) regrouped ∙ rw (alternate_again a after each.0, alternates_again alternates rest each.1) refl

-- ---- the vector

pub vector_again : (alternates : List Stored) → 0 < length alternates → AreStoredAlternates alternates → read_vector (vector_bytes alternates) ≡ Ok alternates
unfolding read_vector
vector_again alternates some stored =
    let n = length alternates in
    let each : alternates_at n (flat_map alternate_bytes alternates) ≡ Ok (alternates, []) = ap (alternates_at n) (sym (append-nil (flat_map alternate_bytes alternates))) ∙ alternates_again alternates [] stored.each in
    let not_none : eqb n 0 ≡ false = ne_eqb n 0 (λ none. omega (arith, some, none)) in
    let few : ltb 16 n ≡ false = le-ltb _ _ stored.few in
    rw (number_again w32 (2 ^ 32) wide32 n (flat_map alternate_bytes alternates) (omega (arith, stored.few)), not_none, few, each) refl
