-- What an insert pushes out where a segment is full.
use Rattle.std.specs.Prelude.{ℕ, ◌≡◌, ◌≤◌, ◌+◌, ◌*◌, ◌/◌, ◌==◌, ◌&&◌, Bool, List, [], filter, length, map, count_by, All, MatchBool, IsTrue}
use Rattle.std.specs.List.{list_any, range_with_len}
use Rattle.tape_base.specs.declared.geometries.Geometry.{Geometry}
use Rattle.dir_table.specs.declared.rows.DirRow.{DirRow}
use Rattle.dir_table.specs.declared.window.Window.{Window}
use Rattle.dir_table.specs.Window.{is_in_range}

-- the places of the displaced rows, their segment, and how many rows of it were in range before
pub record Displacement : Type 0 where
  pub places : List ℕ
  pub segment : ℕ
  pub live : ℕ

-- no row was displaced, and no segment told: so it is before the first insert
abbrev pub none_displaced : Displacement
none_displaced = record { places = []; segment = 0; live = 0 }

-- what contracts see of a `Displaced`: what it tells, and for how many places it has memory
pub record DisplacementKept : Type 0 where
  pub told : Displacement
  pub room : ℕ

-- the rows of a segment that are in range
abbrev pub segment_rows_in_range : Window → ℕ → List DirRow → List DirRow
segment_rows_in_range w segment rows = filter (λ r. r.segment == segment && is_in_range w r.place) rows

-- whether a bucket of a segment has a row in range, so that its first slot is used
abbrev pub is_used : Window → ℕ → List DirRow → ℕ → Bool
is_used w segment rows bucket = list_any (λ r. r.bucket == bucket) (segment_rows_in_range w segment rows)

-- how many buckets of a segment have a row in range
abbrev pub buckets_in_range : Window → ℕ → List DirRow → ℕ
buckets_in_range w segment rows = count_by (is_used w segment rows) (range_with_len 0 w.geometry.buckets)

-- a bucket has four slots, and three of each are for any chain of the segment: the row finds its
-- bucket's first slot used, and every one of the others
abbrev pub is_full : Window → DirRow → List DirRow → Bool
is_full w row rows =
    let free = 3 * w.geometry.buckets in
    is_used w row.segment rows row.bucket
    && length (segment_rows_in_range w row.segment rows) == free + buckets_in_range w row.segment rows

-- every tenth of the slots behind the first ones, rounded up
abbrev pub purge_of : Geometry → ℕ
purge_of g = (3 * g.buckets + 9) / 10

-- so many rows of the row's segment go, all of them in range, and their places are told
pub record IsPurge (w : Window) (row : DirRow) (rows gone : List DirRow) (d : Displacement) : Type 0 where
  pub segment : d.segment ≡ row.segment
  pub live : d.live ≡ length (segment_rows_in_range w row.segment rows)
  pub places : d.places ≡ map (λ r. r.place) gone
  pub count : length gone ≡ purge_of w.geometry
  pub own : All (λ r. r.segment ≡ row.segment) gone
  pub in_range : All (λ r. IsTrue (is_in_range w r.place)) gone

-- nothing goes, and no place is told
pub record NoneGoes (gone : List DirRow) (d : Displacement) : Type 0 where
  pub none : gone ≡ []
  pub untold : d.places ≡ []

-- rows are displaced exactly where an insert may displace and finds its segment full
abbrev pub Displaces : Bool → Window → DirRow → List DirRow → List DirRow → Displacement → Type 0
Displaces purges w row rows gone d =
    MatchBool (purges && is_full w row rows) (IsPurge w row rows gone d) (NoneGoes gone d)

-- the rows of a segment
abbrev pub segment_rows : ℕ → List DirRow → List DirRow
segment_rows segment rows = filter (λ r. r.segment == segment) rows

-- the row stands in this bucket of a segment
abbrev pub is_in : ℕ → ℕ → DirRow → Bool
is_in segment bucket row = row.segment == segment && row.bucket == bucket

-- how many buckets of a segment have a row
abbrev pub buckets_in_use : Geometry → ℕ → List DirRow → ℕ
buckets_in_use g segment rows =
    count_by (λ bucket. list_any (is_in segment bucket) rows) (range_with_len 0 g.buckets)

-- of each segment there are at most three rows for each bucket, and one for each bucket in use
abbrev pub AreFew : Geometry → List DirRow → Type 0
AreFew g rows = (segment : ℕ)
    → length (segment_rows segment rows) ≤ 3 * g.buckets + buckets_in_use g segment rows
