-- What the bytes of a packed directory say: its segments in order, and zero bytes up to the last block's end.
use Rattle.std.specs.Prelude.{ℕ, suc, ◌≡◌, ◌+◌, ◌*◌, ◌/◌, ◌<◌, List, [], ◌∷◌, ◌++◌, take, drop, map, filter, sum_by, Err}
use Rattle.std.specs.List.{range_with_len}
use Rattle.tape_base.specs.declared.geometries.Geometry.{Geometry}
use Rattle.dir_segment.specs.Lists.{Lists, entry_count}
use Rattle.dir_segment.specs.Image.{image_lists, image_walk, WalkIsSound}
use Rattle.dir_segment.specs.declared.fault.SegmentFault.{SegmentFault}
use Rattle.packed_directory.specs.declared.fault.ImageFault.{ImageFault}
use Rattle.packed_directory.specs.declared.fault.ImageFault.TheVariants.{Segment, Memory}
use Rattle.dir_table.specs.declared.rows.StoredRow.{StoredRow}
use Rattle.packed_directory.specs.Entering.{entries_from}
use Rattle.packed_directory.specs.Phases.{stands_between}
use Rattle.packed_directory.specs.StoredRows.{row_of_entry}

-- the bytes of a segment
abbrev pub segment_length : Geometry → ℕ
segment_length g = 4 + 40 * g.buckets

-- the bytes of all segments
abbrev pub segments_length : Geometry → ℕ
segments_length g = g.segments * segment_length g

-- the blocks of an image
abbrev pub image_blocks_of : Geometry → ℕ
image_blocks_of g = (segments_length g + 511) / 512

-- the bytes of one segment of an image
abbrev pub segment_image : Geometry → ℕ → List ℕ → List ℕ
segment_image g n bytes = take (segment_length g) (drop (n * segment_length g) bytes)

-- the segments that an image spells
abbrev pub image_segments : Geometry → List ℕ → List Lists
image_segments g bytes = map (λ n. image_lists g.buckets (segment_image g n bytes)) (range_with_len 0 g.segments)

-- how many entries stand on the chains of segments
abbrev pub entries_in : List Lists → ℕ
entries_in segments = sum_by (λ lists. entry_count lists.chains) segments

-- the walks over all segments end without a fault
abbrev pub IsImageOfSegments : Geometry → List ℕ → Type 0
IsImageOfSegments g bytes = (n : ℕ) → n < g.segments → WalkIsSound (image_walk g.buckets (segment_image g n bytes))

-- the first segment with a fault, and its first fault
pub record IsFirstFault (g : Geometry) (bytes : List ℕ) (number : ℕ) (fault : SegmentFault) : Type 0 where
  pub within : number < g.segments
  pub before : (n : ℕ) → n < number → WalkIsSound (image_walk g.buckets (segment_image g n bytes))
  pub is : image_walk g.buckets (segment_image g number bytes) ≡ Err fault

-- why bytes are no image, or memory ran out
abbrev pub IsImageFault : Geometry → List ℕ → ImageFault → Type 0
IsImageFault g bytes (Segment number fault) = IsFirstFault g bytes number fault
IsImageFault g bytes (Memory e) = Unit {0}

-- the rows that segments from one on mean beside a cursor: an entry counts where it has a block and stands
-- for a place below the cursor
abbrev pub meant_from : Geometry → ℕ → ℕ → List Lists → List StoredRow
meant_from g cursor segment [] = []
meant_from g cursor segment (lists ∷ rest) =
    map (λ it. row_of_entry g cursor segment it.bucket it.entry)
    (filter (λ it. stands_between g cursor 0 cursor it.entry) (entries_from 0 lists.chains))
    ++ meant_from g cursor (suc segment) rest

-- the rows that an image means beside a cursor
abbrev pub means : Geometry → ℕ → List ℕ → List StoredRow
means g cursor bytes = meant_from g cursor 0 (image_segments g bytes)
