-- The size is the length of the spelling.
use Rattle.std.proofs.Common.{◌≡◌, ℕ, ◌+◌, List, [], ◌∷◌, ◌++◌, length, refl, ap, ◌∙◌, arith, length-append}
use Rattle.std.specs.Prelude.{sum_by}
use Rattle.std.specs.List.{flat_map, AllByRecursion}
use Rattle.std.specs.Int.{w16, w32, w64, to_le_bytes}
use Rattle.std.proofs.lemmas.List.Concat.{flat_map-cons}
use Rattle.std.proofs.lemmas.List.Sums.{sum_by-append}
use Rattle.fragment_table.specs.Table.{table_bytes}
use Rattle.fragment_table.proofs.Rows.{length-rows}
use Rattle.alternate_vector.specs.Field.{Field}
use Rattle.alternate_vector.specs.Alternates.{Stored, IsStored, alternate_size, fields_size, vector_size}
use Rattle.alternate_vector.specs.Spelling.{alternate_bytes, field_bytes, fields_bytes, vector_bytes}

abbrev line_length : Field → ℕ
line_length field = 6 + length field.name + length field.value

length-field : (field : Field) → length (field_bytes field) ≡ line_length field
length-field field =
    let e = length-append field.name field.value in
    let f = length-append ((to_le_bytes w16 (length field.name) ++ to_le_bytes w32 (length field.value)) ++ field.name) field.value in
    let g = length-append (to_le_bytes w16 (length field.name) ++ to_le_bytes w32 (length field.value)) field.name in
    omega (arith, f, g)

length-lines : (fields : List Field) → length (flat_map field_bytes fields) ≡ sum_by line_length fields
length-lines [] = refl
length-lines (field ∷ fields) =
    let rest = length-lines fields in
    let one = length-field field in
    let sum = sum_by-append line_length (field ∷ []) fields in
    ap length (flat_map-cons field_bytes field fields) ∙ length-append (field_bytes field) (flat_map field_bytes fields) ∙ omega (arith, rest, one, sum)

length-fields : (fields : List Field) → length (fields_bytes fields) ≡ fields_size fields
length-fields fields = let e = length-lines fields in omega (arith, e)

length-alternate : (a : Stored) → IsStored a → length (alternate_bytes a) ≡ alternate_size a
length-alternate a stored =
    let head = to_le_bytes w64 a.put ++ to_le_bytes w64 a.pin ++ to_le_bytes w64 a.length in
    let r = length-fields a.request in
    let s = length-fields a.response in
    let t = length-rows a.table stored.table.each in
    let one = length-append head (fields_bytes a.request) in
    let two = length-append (head ++ fields_bytes a.request) (fields_bytes a.response) in
    let three = length-append (head ++ fields_bytes a.request ++ fields_bytes a.response) (table_bytes a.table) in
    omega (arith, r, s, t, one, two, three)

length-alternates : (alternates : List Stored) → AllByRecursion IsStored alternates → length (flat_map alternate_bytes alternates) ≡ sum_by alternate_size alternates
length-alternates [] each = refl
length-alternates (a ∷ alternates) each =
    let rest = length-alternates alternates each.1 in
    let one = length-alternate a each.0 in
    let sum = sum_by-append alternate_size (a ∷ []) alternates in
    ap length (flat_map-cons alternate_bytes a alternates) ∙ length-append (alternate_bytes a) (flat_map alternate_bytes alternates) ∙ omega (arith, rest, one, sum)

pub length-vector : (alternates : List Stored) → AllByRecursion IsStored alternates → length (vector_bytes alternates) ≡ vector_size alternates
length-vector alternates each = let e = length-alternates alternates each in omega (arith, e)
