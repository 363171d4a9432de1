-- What contracts see of a piece's name, and the key under which a directory has the piece.
use Rattle.std.specs.Prelude.{ℕ, ◌==◌, ◌&&◌, Bool, List, ◌++◌, take, if◌then◌else◌}
use Rattle.std.specs.Int.{to_le_bytes, w32, w64}
use Rattle.sha2.specs.Sha256.{sha256}
use Rattle.tape_base.specs.declared.keys.Key.{Key}
use Rattle.tape_base.specs.declared.pieces.PieceId.{PieceId}
use Rattle.tape_base.specs.Key.{key_bytes, key_of_bytes, same_key}

-- the piece is the vector of its object, and no fragment
abbrev pub is_vector : PieceId → Bool
is_vector id = id.index == 0

-- the 28 bytes that name a piece: its first key, its put and its index, low bytes first
unfoldable pub piece_bytes : PieceId → List ℕ
piece_bytes id = key_bytes id.first ++ to_le_bytes w64 id.put ++ to_le_bytes w32 id.index

-- the key under which a fragment is entered
abbrev pub fragment_key : PieceId → Key
fragment_key id = key_of_bytes (take 16 (sha256 (piece_bytes id)))

-- the key under which a piece is entered: a vector under its first key
abbrev pub key_of_piece : PieceId → Key
key_of_piece id = if is_vector id then id.first else fragment_key id

-- the same piece
abbrev pub same_piece : PieceId → PieceId → Bool
same_piece a b = same_key a.first b.first && (a.put == b.put && a.index == b.index)
