-- The bytes that spell a vector; numbers have their low byte first.
use Rattle.std.specs.Prelude.{◌≡◌, ◌<◌, List, ℕ, ◌++◌, length}
use Rattle.std.specs.List.{flat_map}
use Rattle.std.specs.Int.{w16, w32, w64, to_le_bytes}
use Rattle.fragment_table.specs.Table.{table_bytes}
use Rattle.alternate_vector.specs.Field.{Field}
use Rattle.alternate_vector.specs.Alternates.{Stored, AreStoredAlternates}

-- the lengths of the name and of the value, and both
abbrev pub field_bytes : Field → List ℕ
field_bytes field = to_le_bytes w16 (length field.name) ++ to_le_bytes w32 (length field.value) ++ field.name ++ field.value

-- the number of lines, and the lines
abbrev pub fields_bytes : List Field → List ℕ
fields_bytes fields = to_le_bytes w16 (length fields) ++ flat_map field_bytes fields

-- put, pin and length of eight bytes each, the lines of the request and of the response, and the table
abbrev pub alternate_bytes : Stored → List ℕ
alternate_bytes a =
    to_le_bytes w64 a.put ++ to_le_bytes w64 a.pin ++ to_le_bytes w64 a.length
    ++ fields_bytes a.request ++ fields_bytes a.response ++ table_bytes a.table

-- the number of alternates, and the alternates
abbrev pub vector_bytes : List Stored → List ℕ
vector_bytes alternates = to_le_bytes w32 (length alternates) ++ flat_map alternate_bytes alternates

-- the bytes spell these alternates, of which there is one at least
pub record IsSpelling (bytes : List ℕ) (alternates : List Stored) : Type 0 where
  pub some : 0 < length alternates
  pub stored : AreStoredAlternates alternates
  pub spelled : bytes ≡ vector_bytes alternates
