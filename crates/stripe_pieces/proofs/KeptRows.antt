-- What a chronicle keeps of a live piece is its row.
use Rattle.std.proofs.Common.{◌≡◌, ◌∙◌, ap}
use Rattle.std.specs.Prelude.{Option, Some, option_map}
use Rattle.tape_base.specs.declared.pieces.PieceId.{PieceId}
use Rattle.cache_model.specs.State.{State, Row, live_row_of}
use Rattle.cache_chronicle.specs.declared.pieces.KeptPiece.{KeptPiece}
use Rattle.cache_chronicle.specs.LivePieces.{kept_piece}

pub kept_of_live : (s : State) (id : PieceId) (row : Row) (piece : KeptPiece) → live_row_of s id ≡ Some row → Some piece ≡ option_map kept_piece (live_row_of s id) → piece ≡ kept_piece row
kept_of_live s id row piece live h = let same : Some piece ≡ Some (kept_piece row) = h ∙ ap (option_map kept_piece) live in cc
