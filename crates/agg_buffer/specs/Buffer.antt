-- What contracts see of an `AggBuffer` (aggregation buffer: Traffic Server guide, "Cache Architecture").
use Rattle.std.specs.Prelude.{ℕ, ◌≡◌, ◌<◌, ◌≤◌, ◌+◌, ◌-◌, ◌*◌, ◌/◌, ◌%◌, List, [], ◌++◌, length, take, drop}
use Rattle.agg_buffer.specs.declared.answers.PutAnswer.{PutAnswer}
use Rattle.agg_buffer.specs.declared.answers.PutAnswer.TheVariants.{Placed, NoRoom}

-- the place at which a buffer begins, the blocks that it reserves, and the bytes put so far
pub record Buffer : Type 0 where
  pub cursor : ℕ
  pub reserved : ℕ
  pub bytes : List ℕ

-- a buffer from this place on in which nothing is put
abbrev pub empty_buffer : ℕ → ℕ → Buffer
empty_buffer cursor reserved = record { cursor = cursor; reserved = reserved; bytes = [] }

-- the blocks that are filled; pieces are whole blocks, so that none is filled in part
abbrev pub filled_of : Buffer → ℕ
filled_of b = length b.bytes / 512

-- the place behind the last filled block
abbrev pub next_place_of : Buffer → ℕ
next_place_of b = b.cursor + filled_of b

-- the blocks that are left
abbrev pub room_of : Buffer → ℕ
room_of b = b.reserved - filled_of b

-- so many filled blocks from this place on
pub record IsFilled (b : Buffer) (place blocks : ℕ) : Type 0 where
  pub from : b.cursor ≤ place
  pub within : place + blocks ≤ next_place_of b

-- their bytes
abbrev pub bytes_at : Buffer → ℕ → ℕ → List ℕ
bytes_at b place blocks = take (512 * blocks) (drop (512 * (place - b.cursor)) b.bytes)

-- a piece is whole blocks, and at least one
pub record IsWholePiece (piece : List ℕ) : Type 0 where
  pub some : 0 < length piece
  pub whole : length piece % 512 ≡ 0

-- how many blocks a piece takes, which is whole
abbrev pub blocks_in : List ℕ → ℕ
blocks_in piece = length piece / 512

-- a piece had room, and is put behind those before it
pub record AddsPiece (before after : Buffer) (piece : List ℕ) : Type 0 where
  pub room : blocks_in piece ≤ room_of before
  pub behind : after ≡ record before { bytes = before.bytes ++ piece }
  pub next : next_place_of after ≡ next_place_of before + blocks_in piece
  pub readable : bytes_at after (next_place_of before) (blocks_in piece) ≡ piece
  pub others : (place blocks : ℕ) → IsFilled before place blocks
      → bytes_at after place blocks ≡ bytes_at before place blocks

-- a piece has more blocks than are left, and nothing changes
pub record RefusesPiece (before after : Buffer) (piece : List ℕ) : Type 0 where
  pub room : room_of before < blocks_in piece
  pub same : after ≡ before

-- what is said of the place of a piece that had room; nothing of one that had none
abbrev pub IfPlaced : PutAnswer → (ℕ → Type 0) → Type 0
IfPlaced (Placed place) P = P place
IfPlaced (NoRoom left) P = Unit {0}

-- what is said of the blocks that are left, where they are too few; nothing of a piece that had room
abbrev pub IfNoRoom : PutAnswer → (ℕ → Type 0) → Type 0
IfNoRoom (Placed place) P = Unit {0}
IfNoRoom (NoRoom left) P = P left
