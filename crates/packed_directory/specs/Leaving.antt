-- What a delete takes out.
use Rattle.std.specs.Prelude.{ℕ, ◌≡◌, ◌==◌, ◌&&◌, Bool, true, false, List, ◌∷◌, length}
use Rattle.std.specs.List.{All, list_any}
use Rattle.std.specs.List.Sorted.{IsPermutation}
use Rattle.tape_base.specs.declared.geometries.Geometry.{Geometry}
use Rattle.dir_segment.specs.Lists.{Lists}
use Rattle.dir_table.specs.declared.rows.StoredRow.{StoredRow}
use Rattle.packed_directory.specs.StoredRows.{rows_of_segments, is_spot}
use Rattle.packed_directory.specs.Packed.{AreBetween}

-- the row stands under this segment, bucket and tag, at a place
abbrev pub is_row : ℕ → ℕ → ℕ → ℕ → StoredRow → Bool
is_row segment bucket tag place row = is_spot segment bucket tag row && row.place == place

-- one row that passes is gone
pub record LosesRow (test : StoredRow → Bool) (before after : List StoredRow) : Type 0 where
  pub row : StoredRow
  pub is : test row ≡ true
  pub left : IsPermutation (row ∷ after) before

-- a row of the place is taken out of its segment, where there is one
pub record TakesOutOfSegment (g : Geometry) (cursor segment bucket tag place : ℕ) (found : Bool) (before after : List Lists) : Type 0 where
  pub stood : found ≡ list_any (is_row segment bucket tag place) (rows_of_segments g cursor 0 before)
  pub gone : found ≡ true → LosesRow (is_row segment bucket tag place) (rows_of_segments g cursor 0 before) (rows_of_segments g cursor 0 after)
  pub none : found ≡ false → after ≡ before
  pub count : length after ≡ length before
  pub widths : All (λ lists. length lists.chains ≡ g.buckets) after
  pub between : (low high : ℕ) → All (AreBetween g cursor low high) before → All (AreBetween g cursor low high) after
