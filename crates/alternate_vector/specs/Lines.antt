-- What a contract sees of the lines that are kept.
use Rattle.std.specs.Prelude.{◌≡◌, ℕ, true, false, List, length, map}
use Rattle.std.specs.List.{AllWithin}
use Rattle.alternate_vector.specs.declared.fields.Line.{Line}
use Rattle.alternate_vector.specs.Field.{Field, is_above}

-- a line as contracts see it, without where its bytes lie
abbrev pub field_of : Line → Field
field_of line = record { name = line.name; value = line.value.bytes }

-- the same of each, in the order in which they are kept
abbrev pub fields_of : List Line → List Field
fields_of lines = map field_of lines

-- so many lines have a name that is not above this one, and they come first
abbrev pub IsPlaceOfName : List ℕ → List Line → ℕ → Type 0
IsPlaceOfName name lines at =
    AllWithin (λ line. is_above line.name name ≡ false) lines 0 at
    × AllWithin (λ line. is_above line.name name ≡ true) lines at (length lines)
