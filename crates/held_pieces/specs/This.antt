-- Whether what was found is a piece that is looked for.
use Rattle.std.specs.Prelude.{Bool, false, Option, Some, None}
use Rattle.tape_base.specs.declared.pieces.PieceId.{PieceId}
use Rattle.tape_base.specs.Piece.{same_piece}

-- some piece was found, and it has this first key, put and index
abbrev pub is_this : Option PieceId → PieceId → Bool
is_this (Some other) id = same_piece other id
is_this None id = false
