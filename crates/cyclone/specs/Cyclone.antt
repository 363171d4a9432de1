-- What contracts see of a cyclone: the content area that is written in a circle, the buffer of what
-- is not written yet, and the directory of what stands on both (Traffic Server guide, "Cache Architecture").
use Rattle.std.specs.Prelude.{ℕ, ◌≡◌, ◌+◌, ◌*◌, ◌<◌, ◌≤◌, ◌^◌, ◌==◌, max, not, Bool, List, [], ◌∷◌, length, IsPermutation, All, MatchBool}
use Rattle.hex.specs.Hex.{IsBytes}
use Rattle.tape_base.specs.declared.geometries.Geometry.{Geometry}
use Rattle.tape_base.specs.declared.pieces.PieceId.{PieceId}
use Rattle.tape_base.specs.Piece.{key_of_piece}
use Rattle.tape_base.specs.Place.{block_of, device_blocks_of, floor_of, next_cursor_of, lap_end_of}
use Rattle.device_log.specs.Causes.{HasCause}
use Rattle.edge_io.specs.declared.source.Failed.{Failed}
use Rattle.std.specs.Prelude.{Result, OnOk}
use Rattle.device_log.specs.Image.{span}
use Rattle.device_log.specs.Calls.{Read, Wrote}
use Rattle.logged_disk.specs.Device.{DeviceState, IsTrusted, Keeps, Logs, seen as content_of}
use Rattle.logged_disk.specs.declared.device.Disk.{Ghosts as DiskGhosts}
use Rattle.doc_header.specs.declared.documents.Doc.{Doc}
use Rattle.doc_header.specs.Document.{document_bytes}
use Rattle.doc_header.specs.Moving.{moved_to}
use Rattle.agg_buffer.specs.Buffer.{Buffer, bytes_at, filled_of, next_place_of, empty_buffer, AddsPiece}
use Rattle.dir_table.specs.declared.rows.DirRow.{DirRow}
use Rattle.dir_table.specs.declared.rows.StoredRow.{StoredRow}
use Rattle.dir_table.specs.declared.window.Window.{Window}
use Rattle.dir_table.specs.declared.directory.Directory.{Ghosts as DirectoryGhosts}
use Rattle.dir_table.specs.Rows.{row_of_key, has_row, plain_rows, LosesPlain}
use Rattle.dir_table.specs.Displacement.{Displacement, Displaces, none_displaced}
use Rattle.dir_table.specs.Entering.{PieceEntered, TakesRow, Enters}
use Rattle.dir_table.specs.Wrap.{rows_at_or_above, stored_from}
use Rattle.tape_base.specs.Blocks.{blocks_of}
use Rattle.write_cursor.specs.Plan.{FitsInLap}
use Rattle.cyclone.specs.declared.cyclone.Cyclone.{Cyclone}

-- a cyclone at one moment
pub record Seen : Type 0 where
  pub geometry : Geometry
  -- the least place that may be read, wherever the buffer begins
  pub least : ℕ
  pub buffer : Buffer
  pub window : Window
  -- what the directory stands for
  pub rows : List DirRow
  -- the same with what is kept beside each place
  pub stored : List StoredRow
  -- how many pieces can be put without more memory
  pub spare : ℕ
  -- what the piece that was put last displaced
  pub displaced : Displacement
  pub device : DeviceState

-- a cyclone as contracts see it, by what its directory and its device tell of themselves
module _ {D R : Type 0} {d : DiskGhosts D} {r : DirectoryGhosts R} where
  abbrev pub seen_cyclone : Cyclone D R d r → Seen
  seen_cyclone c = record {
    geometry = c.geometry;
    least = c.least;
    buffer = c.buffer;
    window = r.window c.directory;
    rows = plain_rows (r.rows c.directory);
    stored = r.rows c.directory;
    spare = r.spare c.directory;
    displaced = r.displaced c.directory;
    device = d.state c.disk;
  }

-- the floor: that of the buffer, or the least place of all
abbrev pub floor_in : Seen → ℕ
floor_in c = max c.least (floor_of c.geometry c.buffer.cursor)

-- what holds of a cyclone between calls
pub record IsTurning (c : Seen) : Type 0 where
  pub geometry : c.window.geometry ≡ c.geometry
  pub cursor : c.window.cursor ≡ c.buffer.cursor
  pub floor : c.window.floor ≡ floor_in c
  pub end : c.window.end ≡ next_place_of c.buffer
  pub reserved : c.buffer.reserved ≡ c.geometry.agg
  pub few : filled_of c.buffer ≤ c.geometry.agg
  pub from : c.geometry.content ≤ c.buffer.cursor
  pub least : c.least ≤ c.buffer.cursor
  pub below : c.buffer.cursor < 2 ^ 62
  pub lap : FitsInLap c.geometry c.buffer.cursor
  pub sized : device_blocks_of c.geometry ≤ c.device.size
  -- all that was entered stands below the next piece
  pub entered : All (λ r. r.place < next_place_of c.buffer) c.rows

-- so it is of a cyclone, whatever its directory and its device are
abbrev pub IsCyclone : {D R : Type 0} {d : DiskGhosts D} {r : DirectoryGhosts R} → Cyclone D R d r → Type 0
IsCyclone c = IsTurning (seen_cyclone c)

-- nothing was put yet
pub record IsFresh (c : Seen) (g : Geometry) : Type 0 where
  pub geometry : c.geometry ≡ g
  pub least : c.least ≡ 0
  pub buffer : c.buffer ≡ empty_buffer g.content g.agg
  pub rows : c.rows ≡ []
  pub displaced : c.displaced ≡ none_displaced

-- a buffer may begin at this place, behind a least one
pub record BufferMayBegin (g : Geometry) (cursor low : ℕ) : Type 0 where
  pub from : g.content ≤ cursor
  pub least : low ≤ cursor
  pub below : cursor < 2 ^ 62
  pub lap : FitsInLap g cursor

-- the range of a directory beside such a buffer, while nothing is put in it
abbrev pub window_from : Geometry → ℕ → ℕ → Window
window_from g cursor low = record { geometry = g; cursor = cursor; floor = max low (floor_of g cursor); end = cursor }

-- so it goes on with a directory of these rows, on that device: nothing is put yet
pub record IsMadeOf (g : Geometry) (cursor low : ℕ) (entries : List StoredRow) (before : DeviceState) (c : Seen) : Type 0 where
  pub geometry : c.geometry ≡ g
  pub least : c.least ≡ low
  pub buffer : c.buffer ≡ empty_buffer cursor g.agg
  pub stored : c.stored ≡ entries
  pub rows : c.rows ≡ plain_rows entries
  pub device : c.device ≡ before

-- a document is in the buffer, and its piece in the directory
pub record IsPut (purges : Bool) (old new : Seen) (doc : Doc) (payload : List ℕ) : Type 0 where
  pub geometry : new.geometry ≡ old.geometry
  pub least : new.least ≡ old.least
  pub buffer : AddsPiece old.buffer new.buffer (document_bytes doc payload)
  -- the rows that go for it
  pub gone : List DirRow
  pub rows : TakesRow (row_of_key old.geometry (key_of_piece doc.id) doc.place) gone old.rows new.rows
  pub displaced : Displaces purges old.window (row_of_key old.geometry (key_of_piece doc.id) doc.place) old.rows gone new.displaced
  pub window : new.window ≡ record old.window { end = next_place_of new.buffer }
  pub spare : old.spare ≤ new.spare + 1
  pub device : new.device ≡ old.device

-- the piece of a document, as the directory is told of it
abbrev pub piece_of_doc : Doc → List ℕ → PieceEntered
piece_of_doc doc payload = record {
  key = key_of_piece doc.id;
  place = doc.place;
  blocks = blocks_of (length payload);
  head = doc.id.index == 0;
  pinned = not (doc.pin == 0);
}

-- it is entered so
abbrev pub EntersDoc : Bool → Seen → Seen → Doc → List ℕ → Type 0
EntersDoc purges old new doc payload =
    Enters purges old.window (piece_of_doc doc payload) old.stored new.displaced new.stored

-- the row of a piece that stands at a place
abbrev pub row_of_piece : Seen → PieceId → ℕ → DirRow
row_of_piece c id place = row_of_key c.geometry (key_of_piece id) place

-- a row was taken out where it stood among these, and else none was
abbrev pub TakesOut : DirRow → List DirRow → List DirRow → Type 0
TakesOut row rows left = MatchBool (has_row row rows) (IsPermutation rows (row ∷ left)) (left ≡ rows)

-- the same of rows with what is kept beside each place
abbrev pub TakesOutStored : DirRow → List StoredRow → List StoredRow → Type 0
TakesOutStored row rows left = MatchBool (has_row row (plain_rows rows)) (LosesPlain row rows left) (left ≡ rows)

-- the piece of a copy of so many blocks is entered behind the buffer's last one, without the row of
-- where it stood
pub record EntersCopy (purges : Bool) (old new : Seen) (id : PieceId) (from blocks : ℕ) (pinned : Bool) : Type 0 where
  pub left : List StoredRow
  pub taken : TakesOutStored (row_of_piece old id from) old.stored left
  pub entered : Enters purges old.window (record {
    key = key_of_piece id;
    place = next_place_of old.buffer;
    blocks = blocks;
    head = id.index == 0;
    pinned = pinned;
  }) left new.displaced new.stored

-- a copy of a document that stood at `from` is in the buffer, and its piece in the directory there,
-- in place of the row of where it stood
pub record IsMoved (purges : Bool) (old new : Seen) (id : PieceId) (from : ℕ) (bytes : List ℕ) : Type 0 where
  pub geometry : new.geometry ≡ old.geometry
  pub least : new.least ≡ old.least
  pub buffer : AddsPiece old.buffer new.buffer (moved_to (next_place_of old.buffer) bytes)
  -- the rows without that of where it stood
  pub left : List DirRow
  pub taken : TakesOut (row_of_piece old id from) old.rows left
  -- the rows that go for it
  pub gone : List DirRow
  pub rows : TakesRow (row_of_piece old id (next_place_of old.buffer)) gone left new.rows
  pub displaced : Displaces purges old.window (row_of_piece old id (next_place_of old.buffer)) left gone new.displaced
  pub window : new.window ≡ record old.window { end = next_place_of new.buffer }
  pub spare : old.spare ≤ new.spare + 1
  pub device : new.device ≡ old.device

-- where the next buffer begins
abbrev pub next_buffer_cursor : Seen → ℕ
next_buffer_cursor c = next_cursor_of c.geometry c.buffer.cursor (filled_of c.buffer)

-- the floor once it begins
abbrev pub next_floor : Seen → ℕ
next_floor c = max c.least (floor_of c.geometry (next_buffer_cursor c))

-- the next buffer begins, and what it may overwrite is out of range
pub record BeginsNext (old new : Seen) : Type 0 where
  pub geometry : new.geometry ≡ old.geometry
  pub least : new.least ≡ old.least
  pub buffer : new.buffer ≡ empty_buffer (next_buffer_cursor old) old.buffer.reserved
  pub window : new.window ≡ record old.window { cursor = next_buffer_cursor old; floor = next_floor old; end = next_buffer_cursor old }
  pub rows : IsPermutation (rows_at_or_above (next_floor old) old.rows) new.rows
  pub stored : IsPermutation (stored_from (next_floor old) old.stored) new.stored
  pub displaced : new.displaced ≡ old.displaced
  pub spare : old.spare ≤ new.spare
  pub device : new.device ≡ old.device

-- what is in the buffer is seen on the device
abbrev pub HasBuffer : Seen → Type 0
HasBuffer c = span (content_of c.device) (block_of c.geometry c.buffer.cursor) (filled_of c.buffer) ≡ c.buffer.bytes

-- a write of the buffer is one call of the device, also where it fails
pub record WritesBuffer (old new : Seen) (result : Result (Unit {0}) Failed) : Type 0 where
  pub keeps : Keeps 1 (filled_of old.buffer) old.device new.device
  pub logs : Logs (Wrote (block_of old.geometry old.buffer.cursor) old.buffer.bytes) result old.device new.device
  pub cause : HasCause old.device.faults new.device.faults result

-- nothing changed but the room for more pieces, which may have grown, and what the device is
pub record SameButRoom (old new : Seen) : Type 0 where
  pub same : new ≡ record old { spare = new.spare; device = new.device }
  pub spare : old.spare ≤ new.spare

-- nothing changed but what the device is
abbrev pub SameTape : Seen → Seen → Type 0
SameTape old new = new ≡ record old { device = new.device }

-- nothing changed but the rows, and the room for more
pub record SameButRows (old new : Seen) : Type 0 where
  pub same : new ≡ record old { rows = new.rows; stored = new.stored; spare = new.spare }
  pub spare : old.spare ≤ new.spare

-- so many blocks from a place on stand in the buffer, or on the device within one lap
pub record BlocksStand (c : Seen) (place blocks : ℕ) : Type 0 where
  pub few : blocks ≤ c.geometry.agg
  pub below : place + blocks ≤ next_place_of c.buffer
  pub lap : place + blocks ≤ lap_end_of c.geometry place

-- what a read of blocks from a place on gives: those of the buffer, or by one call of the device
pub record ReadsBlocks (old new : Seen) (place blocks : ℕ) (result : Result (Unit {0}) Failed) (bytes : List ℕ) : Type 0 where
  pub keeps : Keeps 0 0 old.device new.device
  pub logs : place < old.buffer.cursor → Logs (Read (block_of old.geometry place) bytes) result old.device new.device
  pub none : old.buffer.cursor ≤ place → new.device ≡ old.device
  pub length : length bytes ≡ 512 * blocks
  pub of_bytes : IsBytes bytes
  pub buffered : old.buffer.cursor ≤ place → bytes ≡ bytes_at old.buffer place blocks
  pub given : OnOk result (place < old.buffer.cursor → IsTrusted new.device → bytes ≡ span (content_of old.device) (block_of old.geometry place) blocks)
  pub cause : HasCause old.device.faults new.device.faults result
