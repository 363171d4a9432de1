-- What a cyclone holds of the pieces that the records tell of.
use Rattle.std.specs.Prelude.{ℕ, ◌≡◌, ◌+◌, ◌<◌, ◌≤◌, ◌==◌, ◌&&◌, Bool, if◌then◌else◌, List, [], ◌∷◌, map, filter}
use Rattle.std.specs.List.{AllByRecursion}
use Rattle.tape_base.specs.declared.geometries.Geometry.{Geometry}
use Rattle.tape_base.specs.Geometry.{budget_of}
use Rattle.tape_base.specs.Piece.{key_of_piece}
use Rattle.tape_base.specs.Place.{lap_end_of, block_of}
use Rattle.device_log.specs.Image.{Image, span}
use Rattle.logged_disk.specs.Device.{TellsAll, seen as content_of}
use Rattle.doc_header.specs.Reading.{document_digest}
use Rattle.agg_buffer.specs.Buffer.{Buffer, bytes_at, filled_of, IsFilled}
use Rattle.dir_table.specs.declared.rows.DirRow.{DirRow}
use Rattle.dir_table.specs.Rows.{row_of_key}
use Rattle.dir_table.specs.Window.{is_in_range}
use Rattle.cyclone.specs.Cyclone.{Seen, IsTurning}
use Rattle.cache_model.specs.State.{State, Row, floor_now, live_rows}
use Rattle.cache_model.specs.Tape.{IsSound}

-- the row under which a directory has a piece
abbrev pub entry_of_piece : Geometry → Row → DirRow
entry_of_piece g row = row_of_key g (key_of_piece row.id) row.place

-- the same segment, bucket, tag and place, of whatever piece
abbrev pub same_entry : DirRow → DirRow → Bool
same_entry a b = (a.segment == b.segment && a.bucket == b.bucket) && (a.tag == b.tag && a.place == b.place)

-- how often a row stands in a list
abbrev pub times : DirRow → List DirRow → ℕ
times x [] = 0
times x (row ∷ rows) = if same_entry row x then times x rows + 1 else times x rows

-- two lists have the same rows, each as often
abbrev pub SameRows : List DirRow → List DirRow → Type 0
SameRows a b = (x : DirRow) → times x a ≡ times x b

-- the rows of a directory that are in range
abbrev pub rows_in_range : Seen → List DirRow
rows_in_range c = filter (λ r. is_in_range c.window r.place) c.rows

-- a piece whose place is in the buffer stands there with its recorded digest
pub record IsBuffered (b : Buffer) (row : Row) : Type 0 where
  pub filled : IsFilled b row.place row.blocks
  pub digest : document_digest (bytes_at b row.place row.blocks) ≡ row.digest

-- so it is of a piece from the cursor on; of one below nothing is said
abbrev pub IsBufferedWhereNew : Buffer → Row → Type 0
IsBufferedWhereNew b row = b.cursor ≤ row.place → IsBuffered b row

-- a piece that was written out ends below the buffer, and stands on the device with its recorded digest
pub record IsIntact (s : State) (content : Image) (row : Row) : Type 0 where
  pub ends : row.place + row.blocks ≤ s.cursor
  pub digest : document_digest (span content (block_of s.geometry row.place) row.blocks) ≡ row.digest

-- as long as it may be read
abbrev pub IsIntactWhereWritten : State → Image → Row → Type 0
IsIntactWhereWritten s content row = floor_now s ≤ row.place → row.place < s.cursor → IsIntact s content row

-- a piece takes at most half a buffer, and stands in one lap
pub record IsInLap (g : Geometry) (row : Row) : Type 0 where
  pub small : row.blocks ≤ budget_of g
  pub within : row.place + row.blocks ≤ lap_end_of g row.place

-- a cyclone that holds what the records say
pub record IsHeld (s : State) (c : Seen) : Type 0 where
  pub turning : IsTurning c
  pub sound : IsSound s
  pub geometry : c.geometry ≡ s.geometry
  pub cursor : c.buffer.cursor ≡ s.cursor
  pub filled : filled_of c.buffer ≡ s.filled
  -- the entries in range are those of the live pieces, one each
  pub entered : SameRows (rows_in_range c) (map (entry_of_piece s.geometry) (live_rows s))
  pub buffered : AllByRecursion (IsBufferedWhereNew c.buffer) s.rows
  pub intact : TellsAll c.device → AllByRecursion (IsIntactWhereWritten s (content_of c.device)) s.rows
  pub laps : AllByRecursion (IsInLap s.geometry) s.rows
  pub faults : s.fault ≤ c.device.faults
  pub least : c.least ≡ s.least
