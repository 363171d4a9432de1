-- When a bucket is full, by the rows of its segment alone.
use Rattle.std.specs.Prelude.{ℕ, ◌+◌, ◌*◌, ◌==◌, ◌&&◌, Bool, List, length, filter, count_by}
use Rattle.std.specs.List.{list_any, range_with_len}
use Rattle.tape_base.specs.declared.geometries.Geometry.{Geometry}
use Rattle.dir_table.specs.declared.rows.StoredRow.{StoredRow}

-- the row stands in this bucket of a segment
abbrev pub is_stored_in_bucket : ℕ → ℕ → StoredRow → Bool
is_stored_in_bucket segment bucket row = row.segment == segment && row.bucket == bucket

-- the rows of a segment
abbrev pub rows_of_one_segment : ℕ → List StoredRow → List StoredRow
rows_of_one_segment segment rows = filter (λ r. r.segment == segment) rows

-- how many buckets of a segment have a row
abbrev pub stored_buckets : Geometry → ℕ → List StoredRow → ℕ
stored_buckets g segment rows = count_by (λ bucket. list_any (is_stored_in_bucket segment bucket) rows) (range_with_len 0 g.buckets)

-- a bucket has one slot of its own, its root, and with the others three for each bucket: it has a row, and
-- so has each slot behind the roots
abbrev pub is_bucket_full : Geometry → ℕ → ℕ → List StoredRow → Bool
is_bucket_full g segment bucket rows =
    list_any (is_stored_in_bucket segment bucket) rows
    && length (rows_of_one_segment segment rows) == 3 * g.buckets + stored_buckets g segment rows
