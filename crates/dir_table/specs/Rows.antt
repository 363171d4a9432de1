-- What contracts see of a directory's rows. A key's segment, bucket and tag are as in the Traffic
-- Server guide: many keys may share them, and the documents say whose they are.
use Rattle.std.specs.Prelude.{ℕ, ◌≡◌, ◌==◌, ◌&&◌, Bool, List, ◌∷◌, map, IsPermutation}
use Rattle.std.specs.List.{list_any}
use Rattle.tape_base.specs.declared.geometries.Geometry.{Geometry}
use Rattle.tape_base.specs.declared.keys.Key.{Key}
use Rattle.tape_base.specs.Key.{segment_of, bucket_of, tag_of}
use Rattle.dir_table.specs.declared.rows.DirRow.{DirRow}
use Rattle.dir_table.specs.declared.rows.StoredRow.{StoredRow}
use Rattle.dir_table.specs.declared.rows.Spot.{Spot}

-- the row of a piece that is entered under a key
abbrev pub row_of_key : Geometry → Key → ℕ → DirRow
row_of_key g key place = record { segment = segment_of g key; bucket = bucket_of g key; tag = tag_of key; place = place }

-- the segment, the bucket and the tag of a key
abbrev pub spot_of_key : Geometry → Key → Spot
spot_of_key g key = record { segment = segment_of g key; bucket = bucket_of g key; tag = tag_of key }

-- those of a row; rows of one spot differ in their places at most
abbrev pub spot_of : DirRow → Spot
spot_of row = record { segment = row.segment; bucket = row.bucket; tag = row.tag }

-- the same segment, bucket and tag
abbrev pub same_spot : Spot → Spot → Bool
same_spot a b = a.segment == b.segment && (a.bucket == b.bucket && a.tag == b.tag)

-- the row stands under that segment, bucket and tag
abbrev pub is_at : Spot → DirRow → Bool
is_at spot row = same_spot spot (spot_of row)

-- the row stands in the bucket of a key
abbrev pub is_in_bucket : Geometry → Key → DirRow → Bool
is_in_bucket g key row = segment_of g key == row.segment && bucket_of g key == row.bucket

-- the same row
abbrev pub same_row : DirRow → DirRow → Bool
same_row a b = a.segment == b.segment && (a.bucket == b.bucket && (a.tag == b.tag && a.place == b.place))

-- a row is among these
abbrev pub has_row : DirRow → List DirRow → Bool
has_row row rows = list_any (same_row row) rows

-- a row without what is kept beside its place
abbrev pub plain_row : StoredRow → DirRow
plain_row r = record { segment = r.segment; bucket = r.bucket; tag = r.tag; place = r.place }

-- so of each of these
abbrev pub plain_rows : List StoredRow → List DirRow
plain_rows rows = map plain_row rows

-- one row of the same segment, bucket, tag and place is gone
pub record LosesPlain (row : DirRow) (before after : List StoredRow) : Type 0 where
  pub it : StoredRow
  pub is : plain_row it ≡ row
  pub left : IsPermutation before (it ∷ after)
