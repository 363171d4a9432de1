-- What the device did in a step, by the calls in its log: what it gave for a piece, took or refused; what is damaged, and
-- the trouble with a piece that is asked for.
use Rattle.std.specs.Prelude.{ℕ, ◌≡◌, ◌≢◌, ◌+◌, ◌-◌, ◌*◌, ◌/◌, ◌<◌, ◌≤◌, Bool, true, false, if◌then◌else◌, List, [], ◌∷◌, ◌++◌, length, take, drop, Option, Some, None}
use Rattle.std.specs.List.{AllByRecursion}
use Rattle.hex.specs.Hex.{IsBytes}
use Rattle.device_log.specs.Causes.{Rose}
use Rattle.device_log.specs.Calls.{Asked, ToRead, ToWrite, Call, Read, Wrote, RefusedCall, PowerCut}
use Rattle.device_log.specs.Image.{in_range}
use Rattle.tape_base.specs.declared.digests.Digest.{Digest}
use Rattle.tape_base.specs.Place.{block_of}
use Rattle.doc_header.specs.Reading.{document_digest, payload_of}
use Rattle.cache_model.specs.declared.cause.Cause.{Cause}
use Rattle.cache_model.specs.declared.cause.Cause.TheVariants as cause
use Rattle.cache_model.specs.declared.record.Rec.{Rec}
use Rattle.cache_model.specs.declared.record.Rec.TheVariants as rec
use Rattle.cache_model.specs.State.{State, Row}
use Rattle.cache_model.specs.Permit.{Permit, IsAmong}

-- ---- the calls of a step

-- the device refused this in the step; its count behind it is above that of the last fault
pub record MayCount (p : Permit) (s : State) (asked : Asked) (count : ℕ) : Type 0 where
  pub rose : Rose s.fault count
  pub refused : IsAmong (RefusedCall asked count) p.events

-- it refused to give the blocks of a piece
abbrev pub CountsRead : Permit → State → Row → ℕ → Type 0
CountsRead p s row count = MayCount p s (ToRead (block_of s.geometry row.place) row.blocks) count

-- it refused to take the buffer
pub record CountsWrite (p : Permit) (s : State) (count : ℕ) : Type 0 where
  pub left : List ℕ
  pub counts : MayCount p s (ToWrite (block_of s.geometry s.cursor) s.filled left) count

-- so many blocks of the buffer from a place on, where these are the buffer's bytes
abbrev pub bytes_from : State → List ℕ → Row → List ℕ
bytes_from s bytes row = take (512 * row.blocks) (drop (512 * (row.place - s.cursor)) bytes)

-- it took the buffer in one write, in which each piece of the buffer stands with its recorded digest
pub record TakesBuffer (p : Permit) (s : State) : Type 0 where
  pub bytes : List ℕ
  pub written : IsAmong (Wrote (block_of s.geometry s.cursor) bytes) p.events
  pub whole : length bytes / 512 ≡ s.filled
  pub holds : AllByRecursion (λ (row : Row). s.cursor ≤ row.place → document_digest (bytes_from s bytes row) ≡ row.digest) s.rows

-- ---- what a device does of a stripe that syncs

-- these are the calls of the step up to some moment, the newest first
pub record AreUpTo (p : Permit) (calls : List Call) : Type 0 where
  pub later : List Call
  pub is : p.events ≡ later ++ calls

-- what calls, the newest first, wrote to a block last; nothing where a write of it was refused or the power was cut since
abbrev pub written_of : List Call → ℕ → Option (List ℕ)
written_of [] block = None
written_of (Wrote at bytes ∷ older) block =
    if in_range at (length bytes / 512) block then Some (take 512 (drop (512 * (block - at)) bytes)) else written_of older block
written_of (RefusedCall (ToWrite at n left) count ∷ older) block = if in_range at n block then None else written_of older block
written_of (PowerCut choice left ∷ older) block = None
written_of (call ∷ older) block = written_of older block

-- from a block on these are the bytes that the calls wrote last
abbrev pub AreWrittenLast : List Call → ℕ → List ℕ → Type 0
AreWrittenLast calls at bytes = (i : ℕ) → i < length bytes / 512 → written_of calls (at + i) ≡ Some (take 512 (drop (512 * i) bytes))

-- the calls wrote the piece last, with its recorded digest
pub record IsWrittenLast (p : Permit) (s : State) (calls : List Call) (row : Row) : Type 0 where
  pub bytes : List ℕ
  pub whole : length bytes ≡ 512 * row.blocks
  pub written : AreWrittenLast calls (block_of s.geometry row.place) bytes
  pub digest : document_digest bytes ≡ row.digest

-- up to some moment of the step each piece of the buffer stands as the calls of the device wrote it last
pub record StandsWritten (p : Permit) (s : State) : Type 0 where
  pub calls : List Call
  pub upto : AreUpTo p calls
  pub each : AllByRecursion (λ (row : Row). s.cursor ≤ row.place → IsWrittenLast p s (calls ++ p.past) row) s.rows

-- the device was to give blocks
abbrev pub is_read : Asked → Bool
is_read (ToRead at blocks) = true
is_read asked = false

-- why a flush or a sync stops: a refused call that is no read
pub record CountsStop (p : Permit) (s : State) (count : ℕ) : Type 0 where
  pub asked : Asked
  pub changes : is_read asked ≡ false
  pub counts : MayCount p s asked count

-- ---- one record for each call that has an effect

-- what a call of a device does beside reading: it takes a buffer, or fails, with the count behind it; no step of a stripe that
-- does not sync asks for any other
pub data Effect : Type 0 where
  Took : Effect
  Denied : (count : ℕ) → Effect
  Unasked : Effect

-- the effects of calls, the oldest first, of a stripe that does not sync
abbrev pub effects_in : List Call → List Effect
effects_in [] = []
effects_in (Read at bytes ∷ older) = effects_in older
effects_in (Wrote at bytes ∷ older) = effects_in older ++ Took ∷ []
effects_in (RefusedCall asked count ∷ older) = effects_in older ++ Denied count ∷ []
effects_in (call ∷ older) = effects_in older ++ Unasked ∷ []

-- the effects that records tell: of such a stripe, that a buffer begins tells that the one before it was taken
abbrev pub effects_told : List Rec → List Effect
effects_told [] = []
effects_told (rec.Fault count ∷ recs) = Denied count ∷ effects_told recs
effects_told (rec.Began cursor floor ∷ recs) = Took ∷ effects_told recs
effects_told (r ∷ recs) = effects_told recs

-- the counts of the refusals among them, in order
abbrev pub denials : List Effect → List ℕ
denials [] = []
denials (Denied count ∷ effects) = count ∷ denials effects
denials (effect ∷ effects) = denials effects

-- ---- pieces

-- the piece is written out, and is not in the buffer any more
abbrev pub IsWritten : State → Row → Type 0
IsWritten s row = row.place < s.cursor

-- the device gave these bytes for the piece in this step, in one read of its blocks
pub record IsGiven (p : Permit) (s : State) (row : Row) (bytes : List ℕ) : Type 0 where
  pub written : IsWritten s row
  pub given : IsAmong (Read (block_of s.geometry row.place) bytes) p.events
  pub whole : length bytes ≡ 512 * row.blocks
  pub of_bytes : IsBytes bytes

-- the piece is in the buffer, or the device gave its document in this step
pub data IsRead (p : Permit) (s : State) (row : Row) : Type 0 where
  buffered : s.cursor ≤ row.place → IsRead p s row
  given : (bytes : List ℕ) → IsGiven p s row bytes → row.digest ≡ document_digest bytes → IsRead p s row

-- what is asked for was read, where it is live
abbrev pub IsReadWhereLive : Permit → State → Option Row → Type 0
IsReadWhereLive p s None = Unit {0}
IsReadWhereLive p s (Some row) = IsRead p s row

-- the bytes that the device gave for the piece are not those of its digest
pub record IsDamaged (p : Permit) (s : State) (row : Row) (found : Digest) : Type 0 where
  pub bytes : List ℕ
  pub given : IsGiven p s row bytes
  pub digest : found ≡ document_digest bytes
  pub differ : row.digest ≢ found

-- the record of that; what was kept is the row's digest, or of a payload the one that a table lists
abbrev pub damage_record : Row → Digest → Digest → Rec
damage_record row kept found = rec.Damaged row.id row.place kept found

-- what is answered for it: the place and the same two digests
abbrev pub damage_cause : Row → Digest → Digest → Cause
damage_cause row kept found = cause.Damaged row.place kept found

-- the piece that is asked for cannot be read: the record of that, and the cause
pub data Trouble (p : Permit) (s : State) (row : Row) : List Rec → Cause → Type 0 where
  faulted : (count : ℕ) → IsWritten s row → CountsRead p s row count
      → Trouble p s row (rec.Fault count ∷ []) (cause.DeviceFault count)
  damaged : (found : Digest) → IsDamaged p s row found
      → Trouble p s row (damage_record row row.digest found ∷ []) (damage_cause row row.digest found)

-- the document of a live piece was read, and this is its payload
pub record IsDocumentOf (p : Permit) (s : State) (row : Row) (size : ℕ) (into : List ℕ) : Type 0 where
  pub bytes : List ℕ
  pub whole : length bytes ≡ 512 * row.blocks
  pub of_bytes : IsBytes bytes
  pub digest : row.digest ≡ document_digest bytes
  pub given : IsWritten s row → IsGiven p s row bytes
  pub size_is : size ≡ length (payload_of bytes)
  pub payload : take size into ≡ payload_of bytes
