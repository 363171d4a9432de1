-- How what a cyclone holds follows the records: the laws of the two together.
use Rattle.std.specs.Prelude.{ℕ, ◌≡◌, ◌+◌, ◌*◌, ◌<◌, ◌≤◌, Bool, true, List, ◌∷◌, length, map, IsPermutation, Some, None}
use Rattle.std.specs.List.{AllByRecursion}
use Rattle.tape_base.specs.declared.geometries.Geometry.{Geometry}
use Rattle.tape_base.specs.declared.pieces.PieceId.{PieceId}
use Rattle.tape_base.specs.declared.digests.Digest.{Digest}
use Rattle.tape_base.specs.Blocks.{blocks_of}
use Rattle.tape_base.specs.Geometry.{budget_of}
use Rattle.tape_base.specs.Place.{block_of}
use Rattle.doc_header.specs.declared.documents.Doc.{Doc}
use Rattle.doc_header.specs.Document.{document_bytes}
use Rattle.doc_header.specs.Moving.{moved_to}
use Rattle.doc_header.specs.Reading.{document_digest}
use Rattle.agg_buffer.specs.Buffer.{blocks_in, empty_buffer, filled_of}
use Rattle.cyclone.specs.Cyclone.{Seen, IsFresh, IsMoved, IsTurning, IsPut, BeginsNext, SameButRoom, SameButRows, SameTape, row_of_piece}
use Rattle.cache_model.specs.declared.record.Rec.{Rec}
use Rattle.cache_model.specs.declared.record.Rec.TheVariants as rec
use Rattle.cache_model.specs.State.{State, Row, cursor_next, floor_next, floor_now, live_row_of, nothing_yet, place_now, row_of, row_of_found, after_all, state_after, without}
use Rattle.cache_model.specs.Legal.{format_records}
use Rattle.cache_model.specs.Opening.{Opening}
use Rattle.cache_model.specs.Openings.{IsOpening, opened_records}
use Rattle.device_log.specs.Image.{Image, SameBut, span}
use Rattle.logged_disk.specs.Device.{DeviceState as Device, IsAfter, TellsAll, seen as content_of}
use Rattle.cache_model.specs.Tape.{IsSound}
use Rattle.cache_model.specs.Slots.{AllFit, HasSlotForCopy}
use Rattle.dir_table.specs.Displacement.{AreFew}
use Rattle.held_pieces.specs.Held.{IsHeld, SameRows, entry_of_piece}
use Rattle.cache_model.specs.Displacing.{PushesOut}
use Rattle.held_pieces.specs.Displaced.{displaced_of}

-- the document of a piece that may be placed now
pub record IsPlaceable (s : State) (doc : Doc) (payload : List ℕ) (digest : Digest) : Type 0 where
  pub new : row_of s doc.id ≡ None
  pub place : doc.place ≡ place_now s
  pub small : blocks_of (length payload) ≤ budget_of s.geometry
  pub room : s.filled + blocks_of (length payload) ≤ s.geometry.agg
  pub sized : blocks_in (document_bytes doc payload) ≡ blocks_of (length payload)
  pub recorded : document_digest (document_bytes doc payload) ≡ digest

-- where an entry may displace others, each segment of the directory has slots for its rows
abbrev pub HasSlots : Bool → Seen → Type 0
HasSlots purges c = purges ≡ true → AreFew c.window.geometry c.rows

-- a piece is put, what that displaced is recorded as displaced, and the piece as placed
abbrev pub placed_behind : State → Seen → Doc → List ℕ → Digest → State
placed_behind s new doc payload digest =
    state_after (after_all s (displaced_of s new.displaced)) (rec.Placed doc.id (place_now s) (blocks_of (length payload)) digest doc.pin)

-- then it is held, and these are the pieces that its entry displaces
pub record IsHeldBehind (purges : Bool) (s : State) (new : Seen) (doc : Doc) (payload : List ℕ) (digest : Digest) : Type 0 where
  pub held : IsHeld (placed_behind s new doc payload digest) new
  pub pushed : PushesOut purges s doc.id (displaced_of s new.displaced)

-- so it is in each directory
abbrev pub PlacedIsHeld : Type 0
PlacedIsHeld = (purges : Bool) (s : State) (c new : Seen) (doc : Doc) (payload : List ℕ) (digest : Digest) → IsHeld s c → IsPlaceable s doc payload digest
    → IsPut purges c new doc payload → IsTurning new → HasSlots purges new → IsHeldBehind purges s new doc payload digest

-- a piece that the floor has passed, bytes of as many blocks as it has, room for these in the buffer, and a slot for its entry
-- where the directory displaces
pub record IsMovable (packed : Bool) (s : State) (id : PieceId) (row : Row) (bytes : List ℕ) : Type 0 where
  pub found : row_of s id ≡ Some row
  pub passed : row.place < floor_now s
  pub sized : length bytes ≡ 512 * row.blocks
  pub room : s.filled + row.blocks ≤ s.geometry.agg
  pub slot : packed ≡ true → HasSlotForCopy s id

-- the record of its copy
abbrev pub moved_to_here : State → PieceId → Row → List ℕ → Rec
moved_to_here s id row bytes = rec.Moved id row.place (place_now s) (document_digest (moved_to (place_now s) bytes))

-- where it is copied into the buffer, and recorded as moved, it is held: its entry displaces nothing
abbrev pub MovedIsHeld : Type 0
MovedIsHeld = (packed : Bool) (s : State) (c new : Seen) (id : PieceId) (row : Row) (bytes : List ℕ) → IsHeld s c → IsMovable packed s id row bytes
    → IsMoved packed c new id row.place bytes → IsTurning new → IsHeld (state_after s (moved_to_here s id row bytes)) new

-- where an entry may displace others, each segment has slots for the pieces that are live
abbrev pub HeldFit : Type 0
HeldFit = (s : State) (c : Seen) → IsHeld s c → AreFew c.window.geometry c.rows → AllFit s

-- what is in the buffer is seen on the device, in whole blocks
pub record IsWrittenOut (c : Seen) : Type 0 where
  pub whole : (block : ℕ) → length ((content_of c.device) block) ≡ 512
  pub written : span (content_of c.device) (block_of c.geometry c.buffer.cursor) (filled_of c.buffer) ≡ c.buffer.bytes

-- where the next buffer begins, and is recorded, what may still be read is held
abbrev pub BegunIsHeld : Type 0
BegunIsHeld = (s : State) (c new : Seen) → IsHeld s c → IsWrittenOut c → BeginsNext c new → IsTurning new
    → IsHeld (state_after s (rec.Began (cursor_next s) (floor_next s))) new

-- a later state whose pieces are those before without one, with the same buffer
pub record IsWithout (s t : State) (id : PieceId) : Type 0 where
  pub geometry : t.geometry ≡ s.geometry
  pub least : t.least ≡ s.least
  pub cursor : t.cursor ≡ s.cursor
  pub filled : t.filled ≡ s.filled
  pub rows : t.rows ≡ without id s.rows
  pub fault : t.fault ≡ s.fault
  pub sound : IsSound t

-- a later state with the same pieces and the same buffer
pub record IsAlike (s t : State) : Type 0 where
  pub geometry : t.geometry ≡ s.geometry
  pub least : t.least ≡ s.least
  pub cursor : t.cursor ≡ s.cursor
  pub filled : t.filled ≡ s.filled
  pub rows : t.rows ≡ s.rows
  pub sound : IsSound t

-- a live piece that is taken out of the directory and of the records is held no more, and the others are
abbrev pub TakenIsHeld : Type 0
TakenIsHeld = (s t : State) (c new : Seen) (id : PieceId) (row : Row) → IsHeld s c → live_row_of s id ≡ Some row → IsWithout s t id
    → SameButRows c new → IsPermutation c.rows (row_of_piece c id row.place ∷ new.rows) → IsTurning new → IsHeld t new

-- a piece that is not live leaves the records, and the directory stays
abbrev pub PassedIsHeld : Type 0
PassedIsHeld = (s t : State) (c : Seen) (id : PieceId) → IsHeld s c → live_row_of s id ≡ None → IsWithout s t id → IsHeld t c

-- records that speak of no piece leave what is held, on a device whose count of faults covers them
abbrev pub AlikeIsHeld : Type 0
AlikeIsHeld = (s t : State) (c : Seen) → IsHeld s c → IsAlike s t → t.fault ≤ c.device.faults → IsHeld t c

-- a device that goes on, counts no fault less, and shows what it showed but where the buffer is
-- written
pub record SparesPieces (c : Seen) (device : Device) : Type 0 where
  pub later : c.device.faults ≤ device.faults
  pub goes : IsAfter c.device device
  pub others : SameBut (block_of c.geometry c.buffer.cursor) (filled_of c.buffer) (content_of c.device) (content_of device)

-- and so does a device that changes no more than that
abbrev pub DeviceMayChange : Type 0
DeviceMayChange = (s : State) (c new : Seen) → IsHeld s c → SameTape c new → IsTurning new → SparesPieces c new.device → IsHeld s new

-- a cyclone that is fresh holds what a format begins with
abbrev pub FreshIsHeld : Type 0
FreshIsHeld = (g : Geometry) (c : Seen) → IsFresh c g → IsTurning c → IsHeld (after_all nothing_yet (format_records g)) c

-- a piece stands with its recorded digest
abbrev pub HasItsDigest : Geometry → Image → Row → Type 0
HasItsDigest g content row = document_digest (span content (block_of g row.place) row.blocks) ≡ row.digest

-- a cyclone goes on with what an opening found: its directory has just the entries of these pieces, which stand on a device that
-- tells its content, and the buffer begins empty at the cursor of the copy
pub record HasFound (g : Geometry) (o : Opening) (c : Seen) : Type 0 where
  pub geometry : c.geometry ≡ g
  pub least : c.least ≡ o.floor
  pub buffer : c.buffer ≡ empty_buffer o.cursor g.agg
  pub entries : SameRows c.rows (map (entry_of_piece g) (map row_of_found o.found))
  pub stand : TellsAll c.device → AllByRecursion (HasItsDigest g (content_of c.device)) (map row_of_found o.found)

-- then it holds what the opening begins with
abbrev pub OpenedIsHeld : Type 0
OpenedIsHeld = (packed : Bool) (g : Geometry) (o : Opening) (c : Seen) → IsOpening packed g o → HasFound g o c → IsTurning c
    → IsHeld (after_all nothing_yet (opened_records g o)) c

-- more room changes nothing of what is held
abbrev pub RoomMayGrow : Type 0
RoomMayGrow = (s : State) (c new : Seen) → IsHeld s c → SameButRoom c new → IsTurning new → SparesPieces c new.device → IsHeld s new
