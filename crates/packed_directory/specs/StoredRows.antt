-- An entry of a chain as a row, and a row as an entry.
use Rattle.std.specs.Prelude.{ℕ, ◌+◌, ◌==◌, ◌&&◌, Bool, suc, List, [], ◌∷◌, ◌++◌, map}
use Rattle.tape_base.specs.declared.geometries.Geometry.{Geometry}
use Rattle.tape_base.specs.declared.keys.Key.{Key}
use Rattle.tape_base.specs.Key.{segment_of, bucket_of, tag_of}
use Rattle.tape_base.specs.Place.{slot_of, phase_of}
use Rattle.dir_entry.specs.declared.entry.Entry.{Entry}
use Rattle.dir_segment.specs.Lists.{Lists}
use Rattle.dir_table.specs.declared.rows.StoredRow.{StoredRow}
use Rattle.packed_directory.specs.Phases.{place_of_entry}
use Rattle.packed_directory.specs.Entering.{entries_from}

-- the row of an entry in a bucket of a segment
abbrev pub row_of_entry : Geometry → ℕ → ℕ → ℕ → Entry → StoredRow
row_of_entry g cursor segment bucket e = record {
  segment = segment;
  bucket = bucket;
  tag = e.tag;
  place = place_of_entry g cursor e;
  big = e.big;
  size = e.size;
  head = e.head;
  pinned = e.pinned;
  token = e.token;
}

-- the entry of a row, without a link
abbrev pub entry_of_row : Geometry → StoredRow → Entry
entry_of_row g row = record {
  offset = slot_of g row.place + 1;
  big = row.big;
  size = row.size;
  tag = row.tag;
  phase = phase_of g row.place;
  head = row.head;
  pinned = row.pinned;
  token = row.token;
  next = 0;
}

-- the rows of a segment, by bucket and along each chain
abbrev pub stored_rows_of_segment : Geometry → ℕ → ℕ → Lists → List StoredRow
stored_rows_of_segment g cursor segment lists =
    map (λ it. row_of_entry g cursor segment it.bucket it.entry) (entries_from 0 lists.chains)

-- the rows of the segments from one on, segment by segment
abbrev pub rows_of_segments : Geometry → ℕ → ℕ → List Lists → List StoredRow
rows_of_segments g cursor segment [] = []
rows_of_segments g cursor segment (lists ∷ rest) =
    stored_rows_of_segment g cursor segment lists ++ rows_of_segments g cursor (suc segment) rest

-- the row stands under this segment, bucket and tag
abbrev pub is_spot : ℕ → ℕ → ℕ → StoredRow → Bool
is_spot segment bucket tag row = row.segment == segment && (row.bucket == bucket && row.tag == tag)

-- the row stands under those of a key
abbrev pub is_under : Geometry → Key → StoredRow → Bool
is_under g key = is_spot (segment_of g key) (bucket_of g key) (tag_of key)
