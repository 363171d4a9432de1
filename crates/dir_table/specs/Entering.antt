-- What an insert enters, and what goes out for it.
use Rattle.std.specs.Prelude.{ℕ, ◌≡◌, Bool, false, List, ◌∷◌, ◌++◌, IsPermutation}
use Rattle.dir_entry.specs.Sizes.{IsLeastClass}
use Rattle.tape_base.specs.declared.geometries.Geometry.{Geometry}
use Rattle.tape_base.specs.declared.keys.Key.{Key}
use Rattle.dir_table.specs.declared.rows.StoredRow.{StoredRow}
use Rattle.dir_table.specs.declared.window.Window.{Window}
use Rattle.dir_table.specs.Rows.{row_of_key, plain_row, plain_rows}
use Rattle.dir_table.specs.Displacement.{Displacement, Displaces}

-- a piece as an insert is told of it
pub record PieceEntered : Type 0 where
  pub key : Key
  pub place : ℕ
  pub blocks : ℕ
  pub head : Bool
  pub pinned : Bool

-- the row of a piece: the least size class that holds its blocks, whether it is a vector, whether pinned
pub record IsRowOf (g : Geometry) (piece : PieceEntered) (row : StoredRow) : Type 0 where
  pub there : plain_row row ≡ row_of_key g piece.key piece.place
  pub class : IsLeastClass piece.blocks row.big row.size
  pub head : row.head ≡ piece.head
  pub pinned : row.pinned ≡ piece.pinned
  pub token : row.token ≡ false

-- a row goes in, and others go out
pub record TakesRow {X : Type 0} (row : X) (gone before after : List X) : Type 0 where
  pub left : List X
  pub parted : IsPermutation before (gone ++ left)
  pub entered : IsPermutation (row ∷ left) after

-- an insert: the row of the piece goes in, and what was displaced goes out
pub record Enters (purges : Bool) (w : Window) (piece : PieceEntered) (before : List StoredRow) (d : Displacement) (after : List StoredRow) : Type 0 where
  pub row : StoredRow
  pub is : IsRowOf w.geometry piece row
  pub gone : List StoredRow
  pub takes : TakesRow row gone before after
  pub displaced : Displaces purges w (plain_row row) (plain_rows before) (plain_rows gone) d
