-- What is live, and the slots that it has in its segment.
use Rattle.std.specs.Prelude.{ℕ, ◌≡◌, false, Some}
use Rattle.tape_base.specs.declared.pieces.PieceId.{PieceId}
use Rattle.cache_model.specs.State.{State, Row, live_row_of, without}
use Rattle.cache_model.specs.Room.{bucket_of_piece, is_full_with, rows_of_segment, segment_of_piece}
use Rattle.cache_model.specs.Openings.{FitsSegment}

-- each segment has slots for its live pieces
abbrev pub AllFit : State → Type 0
AllFit s = (segment : ℕ) → FitsSegment s segment

-- the piece is live
abbrev pub IsLivePiece : State → PieceId → Type 0
IsLivePiece s id = (row : Row) × (live_row_of s id ≡ Some row)

-- no piece is live in t that is not in s
abbrev pub HasNoMoreLive : State → State → Type 0
HasNoMoreLive s t = (id : PieceId) → IsLivePiece t id → IsLivePiece s id

-- once the piece has left its old place there is a slot for it in its segment
abbrev pub HasSlotForCopy : State → PieceId → Type 0
HasSlotForCopy s piece =
    is_full_with s (bucket_of_piece s piece) (without piece (rows_of_segment s (segment_of_piece s piece))) ≡ false
