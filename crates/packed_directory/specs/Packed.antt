-- What a contract sees of a `PackedDirectory`.
use Rattle.std.specs.Prelude.{ℕ, ◌≡◌, ◌≤◌, ◌<◌, Bool, true, false, List, [], length, map, replicate, slice_index_or}
use Rattle.std.specs.List.{All}
use Rattle.tape_base.specs.declared.geometries.Geometry.{Geometry}
use Rattle.tape_base.specs.Place.{lap_of, floor_of}
use Rattle.dir_entry.specs.declared.entry.Entry.{Entry}
use Rattle.dir_segment.specs.Lists.{Lists, new_lists, IsFull}
use Rattle.dir_segment.specs.Purging.{purged, tenth_of}
use Rattle.dir_table.specs.declared.rows.StoredRow.{StoredRow}
use Rattle.dir_table.specs.declared.window.Window.{Window}
use Rattle.dir_table.specs.Displacement.{Displacement, none_displaced}
use Rattle.dir_table.specs.Entering.{TakesRow}
use Rattle.packed_directory.specs.Entering.{BucketEntry, entries_from}
use Rattle.packed_directory.specs.Full.{is_bucket_full}
use Rattle.packed_directory.specs.Phases.{IsCursor, IsOfPlace, least_place, place_of_entry, has_block, stands_between}
use Rattle.packed_directory.specs.StoredRows.{row_of_entry, rows_of_segments}

-- the segments, beside the cursor at which the buffer begins, the least readable place and the end of
-- the piece that was entered last
pub record Packed : Type 0 where
  pub geometry : Geometry
  pub cursor : ℕ
  pub floor : ℕ
  pub end : ℕ
  pub segments : List Lists
  pub out : Displacement

-- the rows that it stands for, segment by segment
abbrev pub packed_rows : Packed → List StoredRow
packed_rows d = rows_of_segments d.geometry d.cursor 0 d.segments

-- nothing is entered yet
abbrev pub first_packed : Geometry → List Lists → Packed
first_packed g segments = record {
  geometry = g;
  cursor = g.content;
  floor = floor_of g g.content;
  end = g.content;
  segments = segments;
  out = none_displaced;
}

-- each entry of a segment stands for a place from one place on and below another
abbrev pub AreBetween : Geometry → ℕ → ℕ → ℕ → Lists → Type 0
AreBetween g cursor low high lists = All (λ it. stands_between g cursor low high it.entry ≡ true) (entries_from 0 lists.chains)

-- each entry of a segment has the block and the phase of the place that it stands for
abbrev pub AreOfPlaces : Geometry → ℕ → Lists → Type 0
AreOfPlaces g cursor lists =
    All (λ it. IsOfPlace g (place_of_entry g cursor it.entry) it.entry) (entries_from 0 lists.chains)

-- each entry stands for one place that may be read: it is there once its phase is read beside the cursor
pub record IsPacked (g : Geometry) (cursor floor end : ℕ) (segments : List Lists) : Type 0 where
  pub begun : IsCursor g.content cursor
  pub readable : (least_place g cursor ≤ floor) × (floor ≤ cursor)
  pub behind : cursor ≤ end
  pub count : length segments ≡ g.segments
  pub widths : All (λ lists. length lists.chains ≡ g.buckets) segments
  pub between : All (AreBetween g cursor floor end) segments

-- a row stands in a bucket of the geometry, at a place that may be read, in the cursor's lap or in the one
-- before
pub record IsReadable (g : Geometry) (cursor floor end : ℕ) (row : StoredRow) : Type 0 where
  pub segment : row.segment < g.segments
  pub bucket : row.bucket < g.buckets
  pub low : floor ≤ row.place
  pub high : row.place < end
  pub lap : lap_of g row.place ≤ lap_of g cursor

-- the tape beside which the rows stand
abbrev pub window_of : Packed → Window
window_of d = record { geometry = d.geometry; cursor = d.cursor; floor = d.floor; end = d.end }

-- a segment by its number; behind the last one an empty one
abbrev pub segment_at : List Lists → ℕ → Lists
segment_at segments n = slice_index_or segments n (record { chains = []; free = [] })

-- rows of a segment are those of the entries that a purge takes: of those behind the roots the first, the
-- eleventh and so on, in slot order
pub record EntriesArePurged (g : Geometry) (cursor segment : ℕ) (lists : Lists) (gone : List StoredRow) : Type 0 where
  pub its : List BucketEntry
  pub are : gone ≡ map (λ it. row_of_entry g cursor segment it.bucket it.entry) its
  pub entries : map (λ it. it.entry) its ≡ map (λ r. r.entry) (purged lists)

-- only where the row's bucket is full rows go out, a tenth of all that can stand behind roots
abbrev pub GoesOut : Bool → Geometry → ℕ → Lists → StoredRow → List StoredRow → Type 0
GoesOut true g cursor lists row gone =
    IsFull lists row.bucket × (length gone ≡ tenth_of g.buckets)
    × All (λ r. r.segment ≡ row.segment) gone × EntriesArePurged g cursor row.segment lists gone
GoesOut false g cursor lists row gone = (IsFull lists row.bucket → ⊥) × (gone ≡ [])

-- a row goes into its segment
pub record EntersRow (g : Geometry) (cursor : ℕ) (row : StoredRow) (purged : Bool) (out : List Entry) (before after : List Lists) : Type 0 where
  pub gone : List StoredRow
  pub takes : TakesRow row gone (rows_of_segments g cursor 0 before) (rows_of_segments g cursor 0 after)
  pub told : map (λ r. r.place) gone ≡ map (place_of_entry g cursor) out
  pub full : purged ≡ is_bucket_full g row.segment row.bucket (rows_of_segments g cursor 0 before)
  pub due : GoesOut purged g cursor (segment_at before row.segment) row gone
  pub count : length after ≡ length before
  pub widths : All (λ lists. length lists.chains ≡ g.buckets) after
  pub between : (low high : ℕ) → All (AreBetween g cursor low high) before → low ≤ row.place → row.place < high
      → All (AreBetween g cursor low high) after
  pub blocks : (low high : ℕ) → All (AreBetween g cursor low high) before → All (λ e. has_block g e ≡ true) out

-- the segments of a new directory
abbrev pub new_segments : Geometry → List Lists
new_segments g = replicate g.segments (new_lists g.buckets)

-- the places of the rows that a purge of a segment takes, in slot order
abbrev pub purge_places : Packed → ℕ → List ℕ
purge_places d segment =
    map (place_of_entry d.geometry d.cursor) (map (λ r. r.entry) (purged (segment_at d.segments segment)))
