-- What a step does with what it is asked, whatever records come of it.
use Rattle.std.specs.Prelude.{ℕ, ◌≡◌, ◌≢◌, ◌+◌, ◌<◌, ◌==◌, ◌⊎◌, Bool, true, false, List, [], ◌∷◌, length, Option, Some, None}
use Rattle.std.specs.List.{AllByRecursion}
use Rattle.device_log.specs.Causes.{Rose}
use Rattle.device_log.specs.Calls.{Asked, Read, RefusedCall}
use Rattle.tape_base.specs.declared.keys.Key.{Key}
use Rattle.tape_base.specs.declared.pieces.PieceId.{PieceId}
use Rattle.tape_base.specs.declared.digests.Digest.{Digest}
use Rattle.tape_base.specs.declared.actors.Actor.{Actor}
use Rattle.tape_base.specs.Digest.{digest_of}
use Rattle.tape_base.specs.Blocks.{blocks_of}
use Rattle.tape_base.specs.Geometry.{budget_of}
use Rattle.doc_header.specs.Reading.{document_digest}
use Rattle.alternate_vector.specs.Field.{Field}
use Rattle.tape_base.specs.Place.{block_of}
use Rattle.cache_model.specs.declared.answer.ReadAnswer.{ReadAnswer}
use Rattle.cache_model.specs.declared.record.Rec.{Rec}
use Rattle.cache_model.specs.declared.record.Rec.TheVariants as rec
use Rattle.cache_model.specs.State.{State, Row, PutRow, AllAlong, after_all, live_row_of, place_now, put_of, reader_of}
use Rattle.cache_model.specs.Verdict.{live_vector_of, payload_of_piece}
use Rattle.cache_model.specs.Permit.{Permit, IsAmong, Intent, Flush, Fragment, Weigh, Finish, GiveUp, Remove, Look, ReadAll, StopReading, Reason, End, Done, Fails, Work, work_after}
use Rattle.cache_model.specs.Room.{limit, has_room}
use Rattle.cache_model.specs.Given.{IsRead}
use Rattle.cache_model.specs.Syncing.{must_unmark}
use Rattle.cache_model.specs.Legal.{Does, IsStep, MayGrow, is_writing, size_alone}

-- what is asked is done by one group of records, and not by several
abbrev pub is_single : Intent → Bool
is_single (Fragment put index payload) = false
is_single (Weigh put rest) = false
is_single (Finish put fragments) = false
is_single (ReadAll reader) = false
is_single _ = true

-- a step that is asked one such thing adds one group
abbrev pub OneGroup : Type 0
OneGroup = (p : Permit) (s : State) (i : Intent) (added : List Rec) (why : Option Reason) → is_single i ≡ true
    → IsStep p s (i ∷ []) added why → (e : End) × Does p s i added e

-- a step that is asked nothing adds nothing
abbrev pub NothingAsked : Type 0
NothingAsked = (p : Permit) (s : State) (added : List Rec) (why : Option Reason) → IsStep p s [] added why → (added ≡ []) × (why ≡ None)

-- a fragment that has room and a place is cut at once, where no mark is to be taken back
abbrev pub FragmentIsCut : Type 0
FragmentIsCut = (p : Permit) (s : State) (put index : ℕ) (payload : List ℕ) (added : List Rec) (e : End)
    → must_unmark p s ≡ false → has_room s (length payload) ≡ true → place_now s + blocks_of (length payload) < limit
    → Does p s (Fragment put index payload) added e → (e ≡ Done) × ((behind : List Rec) × (added ≡ rec.Cut put index (length payload) (digest_of payload) ∷ behind))

-- a live vector that is asked to be removed is removed, and what is not there is left
abbrev pub LiveIsRemoved : Type 0
LiveIsRemoved = (p : Permit) (s : State) (key : Key) (row : Row) (added : List Rec) (e : End)
    → live_vector_of s key ≡ Some row → Does p s (Remove key) added e → added ≡ rec.Removed row.id.put key ∷ []

-- a flush of an empty buffer does nothing
abbrev pub EmptyFlush : Type 0
EmptyFlush = (p : Permit) (s : State) (added : List Rec) (e : End) → s.filled ≡ 0 → Does p s Flush added e → (added ≡ []) × (e ≡ Done)

-- a lookup of a key without a live vector adds its answer, and no trouble before that
abbrev pub LookupIsOne : Type 0
LookupIsOne = (p : Permit) (s : State) (actor : ℕ) (key : Key) (request : List Field) (added : List Rec) (e : End)
    → live_vector_of s key ≡ None → Does p s (Look actor key request) added e
    → (who : Actor) × ((answer : ReadAnswer) × (added ≡ rec.ReadOpened s.next_reader who key request answer ∷ []))

-- a put whose vector alone is no piece places none
abbrev pub TooLargeIsNotPlaced : Type 0
TooLargeIsNotPlaced = (p : Permit) (s : State) (put fragments : ℕ) (w : PutRow) (added : List Rec) (e : End)
    → put_of s put ≡ Some w → budget_of s.geometry < blocks_of (size_alone w 0) → Does p s (Finish put fragments) added e → ⊥

-- a vector is placed once all is cut, and not before
abbrev pub AllIsCutFirst : Type 0
AllIsCutFirst = (p : Permit) (s : State) (put fragments : ℕ) (w : PutRow) (added : List Rec) (e : End)
    → put_of s put ≡ Some w → (length w.cuts == fragments) ≡ false → Does p s (Finish put fragments) added e → ⊥

-- the record gives a put up or closes a reader
abbrev pub cleans_up : Rec → Bool
cleans_up (rec.Aborted put key) = true
cleans_up (rec.ReadClosed reader) = true
cleans_up _ = false

-- the only records that come behind a refusal
abbrev pub CleansUp : Rec → Type 0
CleansUp r = cleans_up r ≡ true

-- behind a refusal a step opens, places and answers nothing: it cleans up alone
abbrev pub RefusalEnds : Type 0
RefusalEnds = (p : Permit) (s : State) (i : Intent) (rest : List Intent) (earlier : Option Reason) (why : Reason) (added : List Rec) (after : Work)
    → MayGrow p s (work_after i rest earlier (Fails why)) added after → AllByRecursion CleansUp added

-- what is asked last
abbrev pub AsksLast : Intent → List Intent → Type 0
AsksLast last [] = ⊥
AsksLast last (i ∷ []) = i ≡ last
AsksLast last (i ∷ j ∷ rest) = AsksLast last (j ∷ rest)

-- a step that ends by closing a reader leaves no such reader, also behind a refusal
abbrev pub ReaderIsClosed : Type 0
ReaderIsClosed = (p : Permit) (s : State) (intents : List Intent) (added : List Rec) (why : Option Reason) (reader : ℕ)
    → AsksLast (StopReading reader) intents → IsStep p s intents added why → reader_of (after_all s added) reader ≡ None

-- a step that ends by giving a put up leaves it not open, also behind a refusal
abbrev pub WriterIsEnded : Type 0
WriterIsEnded = (p : Permit) (s : State) (intents : List Intent) (added : List Rec) (why : Option Reason) (put : ℕ)
    → AsksLast (GiveUp put) intents → IsStep p s intents added why → is_writing (after_all s added) put ≡ false

-- ---- each record of a step

-- a put or a reader that opens has the next number, and that of a put stays below the limit
abbrev pub IsNumbered : State → Rec → Type 0
IsNumbered s (rec.WriteOpened actor put key request response pin) = (put ≡ s.next_put) × (put + 1 < limit)
IsNumbered s (rec.ReadOpened reader actor key request answer) = reader ≡ s.next_reader
IsNumbered s _ = Unit {0}

-- puts and readers are numbered one after the other
abbrev pub NumbersFollow : Type 0
NumbersFollow = (p : Permit) (s : State) (intents : List Intent) (added : List Rec) (why : Option Reason)
    → IsStep p s intents added why → AllAlong IsNumbered s added

-- some call that the device refused in the step has this count behind it
abbrev pub IsRefusalCount : Permit → ℕ → Type 0
IsRefusalCount p count = (asked : Asked) × IsAmong (RefusedCall asked count) p.events

-- a fault's count rose above that of the last fault, and is that of a call that was refused in the step
abbrev pub IsRisen : Permit → State → Rec → Type 0
IsRisen p s (rec.Fault count) = Rose s.fault count × IsRefusalCount p count
IsRisen p s _ = Unit {0}

-- each fault is a new one
abbrev pub FaultsRise : Type 0
FaultsRise = (p : Permit) (s : State) (intents : List Intent) (added : List Rec) (why : Option Reason)
    → IsStep p s intents added why → AllAlong (IsRisen p) s added

-- the digest of a document that the device gave in the step from the block of a place on
pub record IsOfGiven (p : Permit) (s : State) (place : ℕ) (found : Digest) : Type 0 where
  pub bytes : List ℕ
  pub given : IsAmong (Read (block_of s.geometry place) bytes) p.events
  pub digest : found ≡ document_digest bytes

-- the digest of the payload of the live piece at a place, which was in the buffer, or read in the step
pub record IsOfPayload (p : Permit) (s : State) (piece : PieceId) (place : ℕ) (found : Digest) : Type 0 where
  pub row : Row
  pub live : live_row_of s piece ≡ Some row
  pub there : row.place ≡ place
  pub read : IsRead p s row
  pub payload : payload_of_piece s piece ≡ Some found

-- a piece is damaged only with another digest than the one that was kept: that of a document that the device gave for it in
-- this step, or, of a payload that is not the one that is listed, that of the payload as the records tell it; and a fault is
-- recorded only with the count of a call that was refused in the step
abbrev pub IsBacked : Permit → State → Rec → Type 0
IsBacked p s (rec.Damaged piece place kept found) = (IsOfGiven p s place found ⊎ IsOfPayload p s piece place found) × (kept ≢ found)
IsBacked p s (rec.Fault count) = IsRefusalCount p count
IsBacked p s _ = Unit {0}

-- so it is of each record of damage and of a fault
abbrev pub TroubleIsBacked : Type 0
TroubleIsBacked = (p : Permit) (s : State) (intents : List Intent) (added : List Rec) (why : Option Reason)
    → IsStep p s intents added why → AllAlong (IsBacked p) s added
