-- What spells a vector is bytes.
use Rattle.std.proofs.Common.{◌≡◌, ℕ, true, List, [], ◌∷◌, ◌++◌, length, sym, subst, arith}
use Rattle.std.specs.Prelude.{◌&&◌, nat_lt, nat_le}
use Rattle.std.specs.Int.{to_le_bytes, w16, w32, w64}
use Rattle.std.specs.List.{flat_map, list_all, AllByRecursion}
use Rattle.std.proofs.lemmas.Bool.{and_parts}
use Rattle.std.proofs.lemmas.List.Concat.{flat_map-cons}
use Rattle.hex.specs.Hex.{IsBytes}
use Rattle.http_header.specs.Token.{is_token_byte}
use Rattle.http_header.proofs.TokenLemmas.{token_byte_range}
use Rattle.tape_base.proofs.Bytes.{IsBytes-append, IsBytes-cons, IsBytes-nil, le_bytes-small}
use Rattle.fragment_table.specs.Table.{table_bytes}
use Rattle.fragment_table.proofs.Rows.{table_bytes-small}
use Rattle.alternate_vector.specs.Field.{Field, AreFields, IsKept, is_name}
use Rattle.alternate_vector.specs.Alternates.{AreStoredAlternates, IsStored, Stored}
use Rattle.alternate_vector.specs.Spelling.{alternate_bytes, field_bytes, fields_bytes, vector_bytes}

-- what is joined of parts that are bytes
all_bytes : {X : Type 0} (f : X → List ℕ) (P : X → Type 0) → ((x : X) → P x → IsBytes (f x)) → (xs : List X) → AllByRecursion P xs → IsBytes (flat_map f xs)
all_bytes f P small [] each = IsBytes-nil
all_bytes f P small (x ∷ xs) each =
    subst IsBytes (sym (flat_map-cons f x xs)) (IsBytes-append (f x) (flat_map f xs) (small x each.0) (all_bytes f P small xs each.1))

token_small : (bytes : List ℕ) → list_all is_token_byte bytes ≡ true → IsBytes bytes
token_small [] h = IsBytes-nil
token_small (b ∷ bytes) h =
    let parts = and_parts (is_token_byte b) (list_all is_token_byte bytes) h in
    let range = token_byte_range b parts.0 in
    IsBytes-cons b bytes (omega (arith, range)) (token_small bytes parts.1)

name_small : (name : List ℕ) → is_name name ≡ true → IsBytes name
name_small name h =
    let outer = and_parts (nat_lt 0 (length name) && nat_le (length name) 256) (list_all is_token_byte name) h in
    token_small name outer.1

field_small : (field : Field) → IsKept field → IsBytes (field_bytes field)
field_small field kept =
    let a = to_le_bytes w16 (length field.name) in
    let b = to_le_bytes w32 (length field.value) in
    let lengths = IsBytes-append a b (le_bytes-small w16 (length field.name)) (le_bytes-small w32 (length field.value)) in
    IsBytes-append (a ++ b ++ field.name) field.value (IsBytes-append (a ++ b) field.name lengths (name_small field.name kept.name)) kept.bytes

fields_small : (fields : List Field) → AreFields fields → IsBytes (fields_bytes fields)
fields_small fields are =
    IsBytes-append (to_le_bytes w16 (length fields)) (flat_map field_bytes fields) (le_bytes-small w16 (length fields)) (all_bytes field_bytes IsKept field_small fields are.each)

alternate_small : (a : Stored) → IsStored a → IsBytes (alternate_bytes a)
alternate_small a is =
    let put = to_le_bytes w64 a.put in
    let pin = to_le_bytes w64 a.pin in
    let size = to_le_bytes w64 a.length in
    let two = IsBytes-append put pin (le_bytes-small w64 a.put) (le_bytes-small w64 a.pin) in
    let three = IsBytes-append (put ++ pin) size two (le_bytes-small w64 a.length) in
    let request = fields_bytes a.request in
    let response = fields_bytes a.response in
    let four = IsBytes-append (put ++ pin ++ size) request three (fields_small a.request is.request) in
    let five = IsBytes-append (put ++ pin ++ size ++ request) response four (fields_small a.response is.response) in
    IsBytes-append (put ++ pin ++ size ++ request ++ response) (table_bytes a.table) five (table_bytes-small a.table is.table)

pub vector_small : (alternates : List Stored) → AreStoredAlternates alternates → IsBytes (vector_bytes alternates)
vector_small alternates are =
    IsBytes-append (to_le_bytes w32 (length alternates)) (flat_map alternate_bytes alternates) (le_bytes-small w32 (length alternates))
    (all_bytes alternate_bytes IsStored alternate_small alternates are.each)
