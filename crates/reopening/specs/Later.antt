-- The tests of an opening that compare the entries which passed those before.
use Rattle.std.specs.Prelude.{ℕ, zero, suc, ◌==◌, ◌&&◌, ◌||◌, not, Bool, true, List, [], ◌∷◌, map, Option, Some, None, if◌then◌else◌}
use Rattle.std.specs.List.{list_all, list_any, slice_get}
use Rattle.tape_base.specs.declared.pieces.PieceId.{PieceId}
use Rattle.tape_base.specs.Key.{same_key}
use Rattle.tape_base.specs.Piece.{is_vector, same_piece}
use Rattle.fragment_table.specs.Table.{TableRow}
use Rattle.alternate_vector.specs.Alternates.{Stored}
use Rattle.cache_model.specs.declared.findings.FoundRow.{FoundRow}
use Rattle.reopening.specs.declared.later.Measure.{Measure}

-- the same piece, or another vector of the same object
abbrev pub replaces : PieceId → PieceId → Bool
replaces later id =
    same_piece later id || (is_vector later && (is_vector id && same_key later.first id.first))

-- no other that passed stands at a greater place and replaces it; each stands behind those of lesser places
unfoldable pub latest : List FoundRow → List FoundRow
latest [] = []
latest (x ∷ later) = if list_any (λ y. replaces y.id x.id) later then latest later else x ∷ latest later

-- the row of a fragment, counted from 1
abbrev pub row_of_fragment : List TableRow → ℕ → Option TableRow
row_of_fragment rows zero = None
row_of_fragment rows (suc i) = slice_get rows i

-- a row that is there states this length
abbrev pub has_length : ℕ → Option TableRow → Bool
has_length length None = true
has_length length (Some row) = row.length == length

-- the alternate states no other length for a piece of its put
abbrev pub states : Measure → Stored → Bool
states y x = not (x.put == y.id.put) || has_length y.length (row_of_fragment x.table y.id.index)

-- none of these does
abbrev pub all_state : Measure → Option (List Stored) → Bool
all_state y None = true
all_state y (Some list) = list_all (states y) list

-- where the piece is one of the same object, its payload has the length that each row of the alternates states
abbrev pub lengths_agree : FoundRow → Measure → Bool
lengths_agree x y = not (same_key x.id.first y.id.first) || all_state y x.alternates

-- so of each that passed
abbrev pub has_lengths : List Measure → FoundRow → Bool
has_lengths measures x = list_all (lengths_agree x) measures

-- what is compared with a table
abbrev pub measure_of : FoundRow → Measure
measure_of x = record { id = x.id; length = x.length }

-- for index 0, each fragment of its alternates that passed has a payload of the length that its row states
unfoldable pub with_lengths : List Measure → List FoundRow → List FoundRow
with_lengths measures [] = []
with_lengths measures (x ∷ rest) =
    if has_lengths measures x then x ∷ with_lengths measures rest else with_lengths measures rest

-- those that are kept of the rows that passed by themselves
abbrev pub kept_rows : List FoundRow → List FoundRow
kept_rows all = with_lengths (map measure_of (latest all)) (latest all)
