-- Where a live piece is: its place by the records, and the walk of a directory that comes to it.
use Rattle.std.specs.Prelude.{ℕ, ◌≡◌, Option, Some, option_map, Contains}
use Rattle.tape_base.specs.declared.pieces.PieceId.{PieceId}
use Rattle.dir_table.specs.declared.directory.Directory.{Ghosts as DirectoryGhosts}
use Rattle.dir_table.specs.declared.rows.Walk.{Walk}
use Rattle.cache_model.specs.State.{State, Row, live_row_of}

-- the place of a live piece
abbrev pub live_place_of : State → PieceId → Option ℕ
live_place_of s id = option_map (λ (row : Row). row.place) (live_row_of s id)

-- a walk over the places that a piece may have comes to it, where it is live
pub record WalkComesTo {R : Type 0} (directory : DirectoryGhosts R) (s : State) (id : PieceId) (d : R) (walk : Walk) : Type 0 where
  pub walks : directory.walks d walk
  pub ahead : (row : Row) → live_row_of s id ≡ Some row → Contains (directory.rest d walk) row.place
