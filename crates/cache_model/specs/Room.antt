-- Where a piece is placed: its document, the room of the buffer, and what its entry displaces.
use Rattle.std.specs.Prelude.{ℕ, ◌≡◌, ◌≢◌, ◌+◌, ◌*◌, ◌/◌, ◌^◌, ◌<◌, ◌≤◌, ◌==◌, Bool, true, false, ◌&&◌, nat_le, List, [], length, filter, map, fold, max, All, AllPairs, Contains}
use Rattle.std.specs.List.{list_any, count_by, range_with_len}
use Rattle.tape_base.specs.declared.pieces.PieceId.{PieceId}
use Rattle.tape_base.specs.Key.{segment_of, bucket_of}
use Rattle.tape_base.specs.Piece.{key_of_piece}
use Rattle.tape_base.specs.Blocks.{blocks_of}
use Rattle.tape_base.specs.Geometry.{budget_of}
use Rattle.doc_header.specs.declared.documents.Doc.{Doc}
use Rattle.doc_header.specs.Document.{digest_of_document}
use Rattle.alternate_vector.specs.Alternates.{Stored}
use Rattle.cache_model.specs.declared.record.Rec.{Rec}
use Rattle.cache_model.specs.declared.record.Rec.TheVariants as rec
use Rattle.cache_model.specs.State.{State, Row, cursor_next, live_rows, place_now, without}
use Rattle.cache_model.specs.Permit.{Permit}

-- below this each piece ends that is placed or copied, and the numbers of puts and the serials of syncs stand
abbrev pub limit : ℕ
limit = 2 ^ 62

-- ---- documents

-- a piece as the document that it is placed as
abbrev pub doc_at : State → PieceId → ℕ → ℕ → Doc
doc_at s piece pin start = record { id = piece; place = place_now s; generation = s.geometry.generation; pin = pin; start = start }

-- the piece, whose payload has so many bytes, is placed behind those of its buffer
abbrev pub placed_record : State → PieceId → ℕ → ℕ → ℕ → List ℕ → Rec
placed_record s piece pin start bytes payload =
    rec.Placed piece (place_now s) (blocks_of bytes) (digest_of_document (doc_at s piece pin start) payload) pin

-- the greatest pin of a list of alternates
abbrev pub greatest_pin : List Stored → ℕ
greatest_pin alternates = fold (λ pin (a : Stored). max pin a.pin) 0 alternates

-- ---- the room of the buffer

-- a document with so many bytes of payload has room in the buffer
abbrev pub has_room : State → ℕ → Bool
has_room s bytes = nat_le (s.filled + blocks_of bytes) s.geometry.agg

-- where the half of the next buffer ends that takes the copies of a flush
abbrev pub copies_end : State → ℕ
copies_end s = cursor_next s + budget_of s.geometry

-- that half would end at the limit or above; then the buffer is not written out, whether or not a copy would come so far
abbrev pub is_flush_exhausted : State → Bool
is_flush_exhausted s = nat_le limit (copies_end s)

-- a document with so many bytes of payload may be placed now
pub record HasPlace (s : State) (bytes : ℕ) : Type 0 where
  pub small : blocks_of bytes ≤ budget_of s.geometry
  pub room : has_room s bytes ≡ true
  pub below : place_now s + blocks_of bytes < limit

-- ---- what an entry displaces (buckets of four slots, as the Traffic Server guide describes)

-- the segment of a piece's entry, by the key under which it is entered: a fragment's is a digest of its name
abbrev pub segment_of_piece : State → PieceId → ℕ
segment_of_piece s id = segment_of s.geometry (key_of_piece id)

-- the bucket within that segment, from 0
abbrev pub bucket_of_piece : State → PieceId → ℕ
bucket_of_piece s id = bucket_of s.geometry (key_of_piece id)

-- the live pieces of a segment
abbrev pub rows_of_segment : State → ℕ → List Row
rows_of_segment s segment = filter (λ row. segment_of_piece s row.id == segment) (live_rows s)

-- one of these pieces, which are of one segment, has its entry in the bucket
abbrev pub is_bucket_used : State → List Row → ℕ → Bool
is_bucket_used s rows bucket = list_any (λ row. bucket_of_piece s row.id == bucket) rows

-- how many buckets have a piece
abbrev pub used_buckets : State → List Row → ℕ
used_buckets s rows = count_by (is_bucket_used s rows) (range_with_len 0 s.geometry.buckets)

-- the root of the piece's bucket is used, and so are all slots of the segment that are no roots
abbrev pub is_full_with : State → ℕ → List Row → Bool
is_full_with s bucket rows =
    is_bucket_used s rows bucket && length rows == 3 * s.geometry.buckets + used_buckets s rows

-- the piece's segment has no slot for one more entry in its bucket, with the pieces that are live
abbrev pub is_full_for : State → PieceId → Bool
is_full_for s piece = is_full_with s (bucket_of_piece s piece) (rows_of_segment s (segment_of_piece s piece))

-- the rows that are left of these once the others are taken out
abbrev pub rows_left : List Row → List Row → List Row
rows_left gone rows = fold (λ left (row : Row). without row.id left) rows gone

-- a tenth of the slots that are no roots, rounded up, each once; behind them there is a slot for one more entry in the bucket
pub record ArePurged (s : State) (bucket : ℕ) (rows purged : List Row) : Type 0 where
  pub each : All (Contains rows) purged
  pub apart : AllPairs (λ (a b : Row). a.id ≢ b.id) purged
  pub tenth : length purged ≡ (3 * s.geometry.buckets + 9) / 10
  pub slot : is_full_with s bucket (rows_left purged rows) ≡ false

-- `live` counts the live pieces of the segment before the purge, those that are purged included
abbrev pub displaced_record : ℕ → ℕ → Row → Rec
displaced_record segment live row = rec.Displaced row.id segment live

-- no slot is free for the entry, in a directory that displaces at all (`packed`)
abbrev pub displaces : Permit → State → PieceId → Bool
displaces p s piece = p.packed && is_full_for s piece

-- the records of what the entry of a piece displaces: nothing where there is a slot for it
pub record MayDisplace (p : Permit) (s : State) (piece : PieceId) (added : List Rec) : Type 0 where
  pub purged : List Row
  pub full : displaces p s piece ≡ true → ArePurged s (bucket_of_piece s piece) (rows_of_segment s (segment_of_piece s piece)) purged
  pub free : displaces p s piece ≡ false → purged ≡ []
  pub is : added ≡ map (displaced_record (segment_of_piece s piece) (length (rows_of_segment s (segment_of_piece s piece)))) purged
