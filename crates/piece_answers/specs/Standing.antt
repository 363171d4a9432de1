-- Which bytes stand for a piece where the device tells its content: its document, in the buffer or on the device.
use Rattle.std.specs.Prelude.{ℕ, ◌≡◌, ◌<◌, ◌≤◌, ◌^◌, false, IfSome, List, [], ◌∷◌, Option, Some, length}
use Rattle.std.specs.List.{AllByRecursion}
use Rattle.tape_base.specs.declared.geometries.Geometry.{Geometry}
use Rattle.tape_base.specs.declared.pieces.PieceId.{PieceId}
use Rattle.tape_base.specs.Piece.{is_vector}
use Rattle.tape_base.specs.Place.{block_of}
use Rattle.device_log.specs.Image.{Image, span}
use Rattle.logged_disk.specs.Device.{DeviceState as Device, TellsAll, seen as content_of}
use Rattle.doc_header.specs.Moving.{BeginsWith}
use Rattle.alternate_vector.specs.Alternates.{Stored}
use Rattle.agg_buffer.specs.Buffer.{Buffer, bytes_at}
use Rattle.cyclone.specs.Cyclone.{Seen}
use Rattle.cache_model.specs.State.{Row, State, floor_now}
use Rattle.cache_model.specs.Outcomes.{Copied, Outcome}
use Rattle.cache_model.specs.Contents.{AreRecordedAs, Content, Contents, IsRecordedFrom, IsToldAs, doc_of_row}

-- bytes begin with the document as which a piece is recorded, with this content; a found vector may have any start
pub record BeginsAs (g : Geometry) (row : Row) (bytes : List ℕ) (content : Content) : Type 0 where
  pub start : ℕ
  pub starts : is_vector row.id ≡ false → start ≡ content.start
  pub few : length content.payload < 2 ^ 32
  pub document : IsRecordedFrom g row start content.payload
  pub begins : BeginsWith bytes (doc_of_row g row start) content.payload

-- so they do where a content is told of the piece
abbrev pub HasContent : Contents → Geometry → Row → List ℕ → Type 0
HasContent contents g row bytes = IfSome (contents row.id row.alternates) (BeginsAs g row bytes)

-- a piece from the cursor on stands in the buffer
abbrev pub StandsInBuffer : Contents → Geometry → Buffer → Row → Type 0
StandsInBuffer contents g b row = b.cursor ≤ row.place → HasContent contents g row (bytes_at b row.place row.blocks)

-- one that was written out stands on the device, as long as it may be read
abbrev pub StandsOnDevice : Contents → State → Image → Row → Type 0
StandsOnDevice contents s content row = floor_now s ≤ row.place → row.place < s.cursor
    → HasContent contents s.geometry row (span content (block_of s.geometry row.place) row.blocks)

-- where the device tells its content, what is told of the pieces stands, and each is recorded so, also one that the floor has passed
pub record AreStanding (contents : Contents) (s : State) (c : Seen) : Type 0 where
  pub buffered : TellsAll c.device → AllByRecursion (StandsInBuffer contents s.geometry c.buffer) s.rows
  pub written : TellsAll c.device → AllByRecursion (StandsOnDevice contents s (content_of c.device)) s.rows
  pub recorded : TellsAll c.device → AreRecordedAs contents s

-- of every piece it is told what it has
abbrev pub contents_of_all : (PieceId → Content) → Contents
contents_of_all content id alternates = Some (content id)

-- each piece, also a fragment, stands as a document of some content, where the device tells its own
pub record AreDocuments (s : State) (c : Seen) : Type 0 where
  pub content : PieceId → Content
  pub stand : AreStanding (contents_of_all content) s c

-- what is told of a piece that is placed is what it is placed with, where the device tells its content
abbrev pub IsToldPlaced : Device → State → PieceId → ℕ → List ℕ → Contents → Type 0
IsToldPlaced device s id start payload contents = TellsAll device → IsToldAs contents s id start payload

-- bytes that were read for a copy are what is seen there
abbrev pub IsAsSeen : Geometry → Image → Row → Outcome → Type 0
IsAsSeen g content row (Copied bytes) = bytes ≡ span content (block_of g row.place) row.blocks
IsAsSeen g content row _ = Unit {0}

-- so it is of each piece
abbrev pub AreAsSeen : Geometry → Image → List Row → List Outcome → Type 0
AreAsSeen g content [] outcomes = Unit {0}
AreAsSeen g content (row ∷ rows) [] = Unit {0}
AreAsSeen g content (row ∷ rows) (o ∷ outcomes) = IsAsSeen g content row o × AreAsSeen g content rows outcomes
