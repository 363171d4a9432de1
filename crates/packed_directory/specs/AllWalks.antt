-- What a walk over all rows has left.
use Rattle.std.specs.Prelude.{ℕ, suc, ◌≡◌, ◌-◌, ◌*◌, ◌<◌, ◌≤◌, true, List, ◌++◌, map, drop, IfSome}
use Rattle.dir_segment.specs.Lists.{SlotRow, chain_of, all_or_behind, has_slot}
use Rattle.tape_base.specs.declared.geometries.Geometry.{Geometry}
use Rattle.dir_table.specs.declared.rows.StoredRow.{StoredRow}
use Rattle.packed_directory.specs.declared.walks.AllWalk.{AllWalk}
use Rattle.packed_directory.specs.Entering.{entries_from}
use Rattle.packed_directory.specs.StoredRows.{row_of_entry, rows_of_segments}
use Rattle.packed_directory.specs.Packed.{Packed, segment_at}

-- the rows of its chain behind the one at which a walk stands
abbrev pub chain_left : Packed → AllWalk → List SlotRow
chain_left d w = all_or_behind w.after (chain_of (segment_at d.segments w.segment) w.bucket)

-- the rows of the buckets of a segment from one on, and those of the later segments
abbrev pub rows_from_bucket : Packed → ℕ → ℕ → List StoredRow
rows_from_bucket d segment bucket =
    map (λ it. row_of_entry d.geometry d.cursor segment it.bucket it.entry)
    (entries_from bucket (drop bucket (segment_at d.segments segment).chains))
    ++ rows_of_segments d.geometry d.cursor (suc segment) (drop (suc segment) d.segments)

-- the rows that a walk over all has left
abbrev pub rows_ahead : Packed → AllWalk → List StoredRow
rows_ahead d w =
    map (λ r. row_of_entry d.geometry d.cursor w.segment w.bucket r.entry) (chain_left d w)
    ++ rows_from_bucket d w.segment (suc w.bucket)

-- how many buckets it has left, its own among them
abbrev pub buckets_ahead : Geometry → AllWalk → ℕ
buckets_ahead g w = (g.segments - w.segment) * g.buckets - w.bucket

-- a walk over all was made of this state
pub record IsAllWalk (d : Packed) (w : AllWalk) : Type 0 where
  pub within : w.segment ≤ d.geometry.segments
  pub below : w.bucket < d.geometry.buckets
  pub stands : IfSome w.after (λ slot. has_slot slot (chain_of (segment_at d.segments w.segment) w.bucket) ≡ true)
