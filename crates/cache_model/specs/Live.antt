-- Which pieces are live behind some records: none but those that were live before.
use Rattle.std.specs.Prelude.{◌≡◌, Some}
use Rattle.tape_base.specs.declared.pieces.PieceId.{PieceId}
use Rattle.cache_model.specs.State.{Row, State, live_row_of}

-- the same piece, where it stood or at another place
pub record IsSamePiece (before row : Row) : Type 0 where
  pub id : row.id ≡ before.id
  pub blocks : row.blocks ≡ before.blocks
  pub payload : row.payload ≡ before.payload
  pub pin : row.pin ≡ before.pin
  pub alternates : row.alternates ≡ before.alternates

-- what is live then was live before
abbrev pub LiveBefore : State → State → Type 0
LiveBefore s t = (id : PieceId) (row : Row) → live_row_of t id ≡ Some row → (before : Row) × (live_row_of s id ≡ Some before) × IsSamePiece before row
