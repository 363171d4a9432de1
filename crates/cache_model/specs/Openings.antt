-- What an opening may take up: whatever pieces the bytes of a device give that pass its tests, also such as this program
-- never wrote. Their places rise, and they may overlap; a vector may have any start and pin.
use Rattle.std.specs.Prelude.{ℕ, ◌≡◌, ◌+◌, ◌-◌, ◌*◌, ◌<◌, ◌≤◌, Bool, true, false, List, [], ◌∷◌, length, map, max, slice_get, Some, None, AllPairs}
use Rattle.std.specs.List.{AllByRecursion}
use Rattle.tape_base.specs.declared.geometries.Geometry.{Geometry}
use Rattle.hex.specs.Hex.{IsBytes}
use Rattle.tape_base.specs.Blocks.{blocks_of}
use Rattle.tape_base.specs.Digest.{digest_of}
use Rattle.tape_base.specs.Geometry.{budget_of}
use Rattle.tape_base.specs.Key.{same_key}
use Rattle.tape_base.specs.Piece.{is_vector}
use Rattle.tape_base.specs.Place.{lap_end_of}
use Rattle.doc_header.specs.Document.{digest_of_document}
use Rattle.fragment_table.specs.Table.{TableRow}
use Rattle.alternate_vector.specs.Alternates.{Stored}
use Rattle.cache_model.specs.declared.findings.FoundRow.{FoundRow}
use Rattle.cache_model.specs.declared.record.Rec.{Rec}
use Rattle.cache_model.specs.declared.record.Rec.TheVariants as rec
use Rattle.cache_model.specs.Opening.{Opening}
use Rattle.cache_model.specs.State.{State, Row, low_of, row_of_found, state_of_opening}
use Rattle.cache_model.specs.Room.{limit, rows_of_segment, used_buckets}
use Rattle.cache_model.specs.Tape.{AreApart, AreRising}
use Rattle.cache_model.specs.Vectors.{AreVectors}

-- the put that the copy had not taken yet is above this one
abbrev pub IsEarlierPut : Opening → ℕ → Type 0
IsEarlierPut o put = (0 < put) × (put < o.next_put)

-- a piece stands as a document of these bytes, whose length and digest its header tells
pub record IsFoundDocument (g : Geometry) (f : FoundRow) : Type 0 where
  pub start : ℕ
  pub payload : List ℕ
  pub of_bytes : IsBytes payload
  pub digest : f.digest ≡ digest_of_document (record { id = f.id; place = f.place; generation = g.generation; pin = f.pin; start = start }) payload
  pub length_is : f.length ≡ length payload
  pub payload_is : f.payload ≡ digest_of payload

-- it has the blocks of its payload, and fits a buffer's half and its lap; where it can be one of a put, that was begun
-- before; a fragment lists nothing
pub record IsFoundPiece (g : Geometry) (o : Opening) (f : FoundRow) : Type 0 where
  pub document : IsFoundDocument g f
  pub size : f.blocks ≡ blocks_of f.length
  pub small : f.blocks ≤ budget_of g
  pub lap : f.place + f.blocks ≤ lap_end_of g f.place
  pub number : f.id.index ≤ 4096 → IsEarlierPut o f.id.put
  pub lists : is_vector f.id ≡ false → f.alternates ≡ None

-- so were the puts of the alternates that it lists
abbrev pub AreEarlierPuts : Opening → FoundRow → Type 0
AreEarlierPuts o f = (list : List Stored) → f.alternates ≡ Some list → AllByRecursion (λ (a : Stored). IsEarlierPut o a.put) list

-- where the row of an alternate is that of a found fragment, it states the length of that
abbrev pub StatesLength : FoundRow → Stored → Type 0
StatesLength x a = a.put ≡ x.id.put → 0 < x.id.index → (entry : TableRow) → slice_get a.table (x.id.index - 1) ≡ Some entry → x.length ≡ entry.length

-- so it is of all alternates that a vector lists, and a fragment of its key
abbrev pub StatesLengths : FoundRow → FoundRow → Type 0
StatesLengths f x = (list : List Stored) → f.alternates ≡ Some list → same_key x.id.first f.id.first ≡ true → AllByRecursion (StatesLength x) list

-- and of each vector and each fragment that is found
abbrev pub AreLengthsStated : Opening → Type 0
AreLengthsStated o = AllByRecursion (λ (f : FoundRow). AllByRecursion (StatesLengths f) o.found) o.found

-- not both are vectors of one key
abbrev pub AreOfTwoKeys : Row → Row → Type 0
AreOfTwoKeys a b = is_vector a.id ≡ true → is_vector b.id ≡ true → same_key a.id.first b.id.first ≡ false

-- a clean copy tells its floor, which is that of the stripe that was closed; else it is what the cursor could not come to
pub record IsFloorOfCopy (g : Geometry) (o : Opening) : Type 0 where
  pub clean : o.clean ≡ true → (o.cursor + g.agg - g.content ≤ o.floor) × (o.floor ≤ low_of g o.cursor)
  pub other : o.clean ≡ false → o.floor ≡ low_of g o.cursor

-- the live pieces of a segment are no more than its slots that are no roots and its roots in use
abbrev pub FitsSegment : State → ℕ → Type 0
FitsSegment s segment = length (rows_of_segment s segment) ≤ 3 * s.geometry.buckets + used_buckets s (rows_of_segment s segment)

-- the numbers of a copy that is accepted
pub record IsCopyOf (g : Geometry) (o : Opening) : Type 0 where
  pub serial : (0 < o.serial) × (o.serial < limit)
  pub from : g.content ≤ o.cursor
  pub lap : o.cursor + g.agg ≤ lap_end_of g o.cursor
  pub below : o.cursor < limit
  pub number : (0 < o.next_put) × (o.next_put < limit)
  pub floor : IsFloorOfCopy g o

-- an accepted copy, and pieces that pass the tests; a directory that displaces (`packed`) has room for them
pub record IsOpening (packed : Bool) (g : Geometry) (o : Opening) : Type 0 where
  pub copy : IsCopyOf g o
  pub rising : AreRising (max g.content o.floor) (map row_of_found o.found) o.cursor
  pub apart : AreApart (map row_of_found o.found)
  pub keys : AllPairs AreOfTwoKeys (map row_of_found o.found)
  pub each : AllByRecursion (IsFoundPiece g o) o.found
  pub puts : AllByRecursion (AreEarlierPuts o) o.found
  pub lengths : AreLengthsStated o
  pub vectors : AreVectors (state_of_opening g o)
  pub fits : packed ≡ true → (segment : ℕ) → FitsSegment (state_of_opening g o) segment

-- the record of what an opening takes up
abbrev pub opened_record : Geometry → Opening → Rec
opened_record g o = rec.Opened g o.serial o.cursor o.floor o.next_put o.clean o.found

-- a session begins with it, and the buffer behind it
abbrev pub opened_records : Geometry → Opening → List Rec
opened_records g o = opened_record g o ∷ rec.Began o.cursor o.floor ∷ []
