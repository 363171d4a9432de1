-- That no two rows of a segment share a place, and that no call lets them.
use Rattle.std.specs.Prelude.{ℕ, ◌≤◌, ◌<◌, ◌==◌, ◌&&◌, Bool, List, count_by, All, IsPermutation}
use Rattle.dir_table.specs.declared.rows.DirRow.{DirRow}
use Rattle.dir_table.specs.declared.rows.StoredRow.{StoredRow}
use Rattle.dir_table.specs.declared.window.Window.{Window}
use Rattle.dir_table.specs.Displacement.{Displacement}
use Rattle.dir_table.specs.Entering.{PieceEntered, Enters}
use Rattle.dir_table.specs.Rows.{LosesPlain}
use Rattle.dir_table.specs.Wrap.{stored_from}

-- the row stands in this segment, at a place
abbrev pub is_placed : ℕ → ℕ → StoredRow → Bool
is_placed segment place row = row.segment == segment && row.place == place

-- no two rows of a segment share a place
abbrev pub PlacesAreApart : List StoredRow → Type 0
PlacesAreApart rows = (segment place : ℕ) → count_by (is_placed segment place) rows ≤ 1

-- a piece that is entered behind all rows shares its place with none
abbrev pub EntersApart : Type 0
EntersApart = (purges : Bool) (w : Window) (piece : PieceEntered) (d : Displacement) (before after : List StoredRow)
    → Enters purges w piece before d after → All (λ r. r.place < piece.place) before → PlacesAreApart before → PlacesAreApart after

-- nor does one that is left where another is taken out
abbrev pub LosesApart : Type 0
LosesApart = (row : DirRow) (before after : List StoredRow) → LosesPlain row before after → PlacesAreApart before → PlacesAreApart after

-- or where those below a place go
abbrev pub WrapsApart : Type 0
WrapsApart = (low : ℕ) (before after : List StoredRow) → IsPermutation (stored_from low before) after → PlacesAreApart before
    → PlacesAreApart after
