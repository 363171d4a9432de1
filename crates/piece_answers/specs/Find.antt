-- What is found of a piece, and what is recorded where it is not.
use Rattle.std.specs.Prelude.{ℕ, ◌≡◌, ◌≢◌, ◌*◌, ◌<◌, ◌≤◌, ◌^◌, List, [], ◌∷◌, length, take, Option, Some, None, IfSome}
use Rattle.tape_base.specs.declared.pieces.PieceId.{PieceId}
use Rattle.tape_base.specs.declared.digests.Digest.{Digest}
use Rattle.tape_base.specs.Geometry.{budget_of}
use Rattle.logged_disk.specs.Device.{TellsAll}
use Rattle.doc_header.specs.Reading.{document_digest, payload_of}
use Rattle.cyclone.specs.Cyclone.{BlocksStand, Seen}
use Rattle.cache_model.specs.declared.cause.Cause.TheVariants as cause
use Rattle.cache_model.specs.declared.record.Rec.{Rec}
use Rattle.cache_model.specs.declared.record.Rec.TheVariants as rec
use Rattle.cache_model.specs.State.{Row, State, live_row_of}
use Rattle.cache_model.specs.Verdict.{cause_of_piece, size_of}
use Rattle.cache_model.specs.Permit.{Permit}
use Rattle.cache_model.specs.Given.{IsDocumentOf, Trouble, effects_told}
use Rattle.cache_model.specs.Contents.{Contents}
use Rattle.cache_model.specs.Troubles.{cause_records}
use Rattle.piece_answers.specs.declared.answer.Found.{Found}
use Rattle.piece_answers.specs.declared.answer.Found.TheVariants as found
use Rattle.piece_answers.specs.Faults.{HasEffects}
use Rattle.piece_answers.specs.Covers.{AllReadIsSeen, Covers}
use Rattle.piece_answers.specs.Standing.{AreStanding}

-- no record of a piece that is not live, or that was found
abbrev pub found_records : Option Row → Found → List Rec
found_records None answer = []
found_records (Some row) (found.Found length) = []
found_records (Some row) (found.Missing why) = cause_records row why

-- the same by the piece, which is live or not
abbrev pub find_adds : State → PieceId → Found → List Rec
find_adds s id answer = found_records (live_row_of s id) answer

-- there is room in the bytes for the document of a piece, where it is live
abbrev pub HasRoomFor : State → PieceId → List ℕ → Type 0
HasRoomFor s id into = IfSome (size_of s id) (λ blocks. 512 * blocks ≤ length into)

-- the blocks and the digest of a live piece
pub record IsRecorded (s : State) (id : PieceId) (place blocks : ℕ) (digest : Digest) : Type 0 where
  pub row : Row
  pub live : live_row_of s id ≡ Some row
  pub place_is : row.place ≡ place
  pub blocks_is : row.blocks ≡ blocks
  pub digest_is : row.digest ≡ digest

-- a live piece as it is to be read: some blocks, no more than half a buffer, and they stand
pub record IsToBeRead (s : State) (c : Seen) (id : PieceId) (place blocks : ℕ) (digest : Digest) : Type 0 where
  pub recorded : IsRecorded s id place blocks digest
  pub some : 0 < blocks
  pub few : blocks ≤ budget_of s.geometry
  pub stored : BlocksStand c place blocks

-- some blocks stand in front of the bytes, and their length is small
pub record HasBlocks (blocks : ℕ) (into : List ℕ) : Type 0 where
  pub some : 0 < blocks
  pub within : 512 * blocks ≤ length into
  pub few : 512 * blocks ≤ 2 ^ 31

-- what a judgement of bytes that were read records
abbrev pub judged_records : PieceId → ℕ → Found → List Rec
judged_records id place (found.Found length) = []
judged_records id place (found.Missing (cause.Damaged at kept other)) = rec.Damaged id place kept other ∷ []
judged_records id place (found.Missing _) = []

-- the bytes have the digest that was kept, and this is their payload; or they are damaged
abbrev pub IsJudged : ℕ → Digest → List ℕ → Found → List ℕ → Type 0
IsJudged place kept bytes (found.Found size) into =
    (kept ≡ document_digest bytes) × (size ≡ length (payload_of bytes)) × (take size into ≡ payload_of bytes)
IsJudged place kept bytes (found.Missing why) into = (why ≡ cause.Damaged place kept (document_digest bytes)) × (kept ≢ document_digest bytes)

-- of a piece that is not live the cause; of a live one its payload, or the trouble that it had
abbrev pub IsFoundAs : Permit → State → PieceId → Option Row → Found → List ℕ → Type 0
IsFoundAs p s id None answer into = answer ≡ found.Missing (cause_of_piece s id)
IsFoundAs p s id (Some row) (found.Found size) into = IsDocumentOf p s row size into
IsFoundAs p s id (Some row) (found.Missing why) into = Trouble p s row (cause_records row why) why

-- a fault with a live piece is told with the device's own count
abbrev pub TellsCount : Option Row → ℕ → Found → Type 0
TellsCount (Some row) faults (found.Missing (cause.DeviceFault count)) = count ≡ faults
TellsCount _ faults _ = Unit {0}

-- what was found is the payload that is told of the piece, where that is live
abbrev pub HasPayload : Contents → Option Row → Found → List ℕ → Type 0
HasPayload contents (Some row) (found.Found size) into = IfSome (contents row.id row.alternates) (λ c. (size ≡ length c.payload) × (take size into ≡ c.payload))
HasPayload contents _ answer into = Unit {0}

-- what was found, in any step that covers the call; what was read is what is seen, what was refused is recorded, and where the
-- device tells its content a payload is the one that is told
pub record Finds (s : State) (old new : Seen) (id : PieceId) (answer : Found) (into : List ℕ) : Type 0 where
  pub seen : AllReadIsSeen old.device new.device
  pub faults : HasEffects old.device.past new.device.past (effects_told (find_adds s id answer))
  pub counted : TellsCount (live_row_of s id) new.device.faults answer
  pub contents : TellsAll new.device → (contents : Contents) → AreStanding contents s old → HasPayload contents (live_row_of s id) answer into
  pub answers : (p : Permit) → Covers p old.device.past new.device.past → IsFoundAs p s id (live_row_of s id) answer into
