-- The tests that compare pieces, by what a reader looks up under their names.
use Rattle.std.specs.Prelude.{◌≡◌, ℕ, ◌+◌, ◌==◌, ◌&&◌, ◌||◌, Bool, false, true, List, [], ◌∷◌, map, Option, Some, None, if◌then◌else◌}
use Rattle.std.specs.List.{list_all, list_any}
use Rattle.tape_base.specs.declared.keys.Key.{Key}
use Rattle.tape_base.specs.declared.pieces.PieceId.{PieceId}
use Rattle.tape_base.specs.Key.{same_key}
use Rattle.tape_base.specs.Piece.{is_vector, same_piece}
use Rattle.fragment_table.specs.Table.{TableRow}
use Rattle.alternate_vector.specs.Alternates.{Stored}
use Rattle.cache_model.specs.declared.findings.FoundRow.{FoundRow}
use Rattle.reopening.specs.declared.later.Measure.{Measure}
use Rattle.reopening.specs.Later.{has_lengths, latest, measure_of, replaces}

-- one of these is the piece
abbrev pub is_piece_found : PieceId → List FoundRow → Bool
is_piece_found id all = list_any (λ y. same_piece y.id id) all

-- one of these is a vector of the object
abbrev pub has_vector_of : Key → List FoundRow → Bool
has_vector_of first all = list_any (λ y. is_vector y.id && same_key y.id.first first) all

-- a piece is replaced where one behind it has its name, or, for a vector, is a vector of its object
abbrev pub ReplacedByName : Type 0
ReplacedByName = (id : PieceId) (later : List FoundRow)
    → list_any (λ y. replaces y.id id) later ≡ (is_piece_found id later || (is_vector id && has_vector_of id.first later))

-- the length of the first of these that is the piece
abbrev pub measured : PieceId → List Measure → Option ℕ
measured id [] = None
measured id (y ∷ rest) = if same_piece id y.id then Some y.length else measured id rest

-- what is measured of a piece, if anything is, is this length
abbrev pub is_measured : Option ℕ → ℕ → Bool
is_measured None length = true
is_measured (Some found) length = length == found

-- the piece of an object that a row of a table is for
abbrev pub piece_of_row : Key → ℕ → ℕ → PieceId
piece_of_row first put index = record { first = first; put = put; index = index }

-- the rows of a table, of which the first is for this index, state what is measured of their pieces
abbrev pub rows_measured : List Measure → Key → ℕ → ℕ → List TableRow → Bool
rows_measured all first put index [] = true
rows_measured all first put index (row ∷ rest) =
    is_measured (measured (piece_of_row first put index) all) row.length && rows_measured all first put (index + 1) rest

-- so do the tables of what a piece lists
abbrev pub lists_measured : List Measure → Key → Option (List Stored) → Bool
lists_measured all first None = true
lists_measured all first (Some list) = list_all (λ s. rows_measured all first s.put 1 s.table) list

-- no two of these are of one piece
abbrev pub MeasuresApart : List Measure → Type 0
MeasuresApart [] = Unit {0}
MeasuresApart (y ∷ rest) = (list_any (λ z. same_piece y.id z.id) rest ≡ false) × MeasuresApart rest

-- where they are apart, the lengths of a piece agree where its tables state what is measured
abbrev pub LengthsByName : Type 0
LengthsByName = (all : List Measure) (x : FoundRow) → MeasuresApart all
    → has_lengths all x ≡ lists_measured all x.id.first x.alternates

-- those that are kept by the tests before are apart
abbrev pub LatestApart : Type 0
LatestApart = (all : List FoundRow) → MeasuresApart (map measure_of (latest all))
