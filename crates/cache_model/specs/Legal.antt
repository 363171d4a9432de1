-- Which records a step adds: groups that stand together, each of which ends, leaves or refuses what
-- was asked first.
use Rattle.std.specs.Prelude.{ℕ, ◌≡◌, ◌≢◌, ◌+◌, ◌-◌, ◌*◌, ◌^◌, ◌<◌, ◌≤◌, ◌==◌, Bool, true, false, if◌then◌else◌, List, [], ◌∷◌, ◌++◌, length, Option, Some, None, option_map, option_and_then, unwrap_or, is_some, cond}
use Rattle.std.specs.List.{count_by}
use Rattle.hex.specs.Hex.{IsBytes}
use Rattle.tape_base.specs.declared.keys.Key.{Key}
use Rattle.tape_base.specs.declared.pieces.PieceId.{PieceId}
use Rattle.tape_base.specs.declared.digests.Digest.{Digest}
use Rattle.tape_base.specs.declared.actors.Actor.{Actor}
use Rattle.tape_base.specs.declared.geometries.Geometry.{Geometry}
use Rattle.device_log.specs.Calls.{Call, Flipped, Told}
use Rattle.tape_base.specs.Blocks.{blocks_of}
use Rattle.tape_base.specs.Digest.{digest_of}
use Rattle.tape_base.specs.Geometry.{budget_of}
use Rattle.tape_base.specs.Place.{floor_of}
use Rattle.fragment_table.specs.Table.{TableRow, made_row, total_length}
use Rattle.alternate_vector.specs.Field.{Field, AreFields}
use Rattle.alternate_vector.specs.Alternates.{vector_size}
use Rattle.alternate_vector.specs.Spelling.{vector_bytes}
use Rattle.cache_model.specs.declared.cause.Cause.{Cause}
use Rattle.cache_model.specs.declared.answer.ReadAnswer.{ReadAnswer}
use Rattle.cache_model.specs.declared.answer.ReadAnswer.TheVariants as read
use Rattle.cache_model.specs.declared.answer.NextAnswer.{NextAnswer}
use Rattle.cache_model.specs.declared.answer.NextAnswer.TheVariants as next
use Rattle.cache_model.specs.declared.record.Rec.{Rec}
use Rattle.cache_model.specs.declared.record.Rec.TheVariants as rec
use Rattle.cache_model.specs.State.{State, Row, PutRow, ReaderRow, Open, most_fragments, after_all, nothing_yet, alternate_of, fragment_piece, place_now, list_of_piece, list_of_put, live_row_of, put_of, reader_of, vector_piece, with_cut}
use Rattle.cache_model.specs.Verdict.{digest_in, is_open, live_vector_of, lookup_verdict, next_piece, next_row, reader_verdict}
use Rattle.cache_model.specs.Permit.{Permit, Setting, IsSetBy, Intent, Flush, Sync, SyncBegin, SyncStep, Drain, CleanSync, Write, Fragment, Overflow, Weigh, Finish, Commit, GiveUp, Remove, Look, ReadOn, ReadAll, StopReading, Reason, ManyWriters, Exhausted, ManyFragments, TooLarge, Lost, Faulted, StillOpen, End, Stays, Done, Fails, Work, to_do, work_after}
use Rattle.cache_model.specs.Given.{CountsRead, CountsWrite, IsDamaged, IsRead, IsReadWhereLive, IsWritten, TakesBuffer, Trouble, denials, effects_in, effects_told, damage_cause, damage_record}
use Rattle.cache_model.specs.Due.{due_pieces}
use Rattle.cache_model.specs.Outcomes.{AreOutcomes, Outcome, flush_records, stopped_front_of, stopped_records}
use Rattle.cache_model.specs.Opening.{Opening}
use Rattle.cache_model.specs.Openings.{IsOpening, opened_records}
use Rattle.cache_model.specs.Syncing.{AtOnce, CannotEnd, DoesCleanSync, DoesSync, DoesSyncStep, InParts, Unmarks, WhereDue, ended_records, must_unmark}
use Rattle.cache_model.specs.Room.{limit, placed_record, greatest_pin, has_room, is_flush_exhausted, HasPlace, MayDisplace}

-- no vector was placed that is not committed yet
abbrev pub IsQuiet : State → Type 0
IsQuiet s = s.pending ≡ None

-- how many writers may be open at once, of all keys
abbrev pub most_writers : ℕ
most_writers = 64

-- the puts that are neither closed nor given up, also where the device or the limit stopped a close
abbrev pub open_writers : State → ℕ
open_writers s = count_by is_open s.puts

-- the put is open, and this is its row
pub record IsWriting (s : State) (put : ℕ) (w : PutRow) : Type 0 where
  pub quiet : IsQuiet s
  pub found : put_of s put ≡ Some w
  pub is_open : w.writing ≡ Open

-- the put is known and open, whether or not a vector is pending
abbrev pub is_writing : State → ℕ → Bool
is_writing s put = unwrap_or (option_map is_open (put_of s put)) false

-- ---- a flush (aggregation buffer and evacuation: Apache Traffic Server guide, Cache Architecture)

-- a flush may be tried: no vector is pending, the buffer is not empty, and the next one may begin
pub record CanFlush (s : State) : Type 0 where
  pub quiet : IsQuiet s
  pub filled : 0 < s.filled
  pub below : is_flush_exhausted s ≡ false

-- of a stripe that does not sync the device takes the buffer, the next one begins, and what is due is copied into it
-- within its budget
pub record MayFlush (p : Permit) (s : State) (added : List Rec) : Type 0 where
  pub unsynced : p.syncs ≡ false
  pub outcomes : List Outcome
  pub can : CanFlush s
  pub takes : TakesBuffer p s
  pub are : AreOutcomes p s (budget_of s.geometry) (due_pieces s p.now) outcomes
  pub is : added ≡ flush_records s (due_pieces s p.now) outcomes

-- the device refused to take the buffer, behind the reads of what is due
pub record MayStop (p : Permit) (s : State) (count : ℕ) (added : List Rec) : Type 0 where
  pub unsynced : p.syncs ≡ false
  pub outcomes : List Outcome
  pub can : CanFlush s
  pub are : AreOutcomes p s (budget_of s.geometry) (due_pieces s p.now) outcomes
  pub counts : CountsWrite p (after_all s (stopped_front_of (due_pieces s p.now) outcomes)) count
  pub is : added ≡ stopped_records (due_pieces s p.now) outcomes count

-- an empty buffer is left, also at the limit; else it is written out, or the device or the limit stops that
pub data DoesFlush (p : Permit) (s : State) (added : List Rec) : End → Type 0 where
  empty : IsQuiet s → s.filled ≡ 0 → added ≡ [] → DoesFlush p s added Done
  flushes : MayFlush p s added → DoesFlush p s added Done
  stops : (count : ℕ) → MayStop p s count added → DoesFlush p s added (Fails (Faulted count))
  exhausted : IsQuiet s → 0 < s.filled → is_flush_exhausted s ≡ true → added ≡ [] → DoesFlush p s added (Fails Exhausted)
  syncs : {e : End} → DoesSync p WhereDue s added e → DoesFlush p s added e

-- nobody writes or reads; the sync in parts is ended, and a buffer that is not empty is written out with a sync
pub data DoesDrain (p : Permit) (s : State) (added : List Rec) : End → Type 0 where
  still_open : p.syncs ≡ true → IsQuiet s → 0 < open_writers s + length s.readers → added ≡ []
      → DoesDrain p s added (Fails (StillOpen (open_writers s) (length s.readers)))
  empty : p.syncs ≡ true → IsQuiet s → open_writers s + length s.readers ≡ 0 → s.filled ≡ 0 → added ≡ ended_records s → DoesDrain p s added Done
  stays : (count : ℕ) → p.syncs ≡ true → IsQuiet s → open_writers s + length s.readers ≡ 0 → s.filled ≡ 0 → CannotEnd p s count added
      → DoesDrain p s added (Fails (Faulted count))
  syncs : {e : End} → open_writers s + length s.readers ≡ 0 → 0 < s.filled → DoesSync p AtOnce s added e → DoesDrain p s added e

-- behind a flush for room what was asked is still to be done
abbrev pub stays_behind : End → End
stays_behind Done = Stays
stays_behind e = e

-- a piece of so many bytes that is about to be placed has no room: a flush is tried
pub data MakesRoom (p : Permit) (s : State) (bytes : ℕ) (added : List Rec) : End → Type 0 where
  flushes : has_room s bytes ≡ false → MayFlush p s added → MakesRoom p s bytes added Stays
  stops : (count : ℕ) → has_room s bytes ≡ false → MayStop p s count added → MakesRoom p s bytes added (Fails (Faulted count))
  exhausted : has_room s bytes ≡ false → is_flush_exhausted s ≡ true → added ≡ [] → MakesRoom p s bytes added (Fails Exhausted)
  syncs : {e : End} (f : End) → has_room s bytes ≡ false → DoesSync p WhereDue s added f → e ≡ stays_behind f → MakesRoom p s bytes added e

-- it has room, and would end at the limit or above
pub record HasNoPlace (s : State) (bytes : ℕ) (added : List Rec) : Type 0 where
  pub room : has_room s bytes ≡ true
  pub above : limit ≤ place_now s + blocks_of bytes
  pub is : added ≡ []

-- ---- writers

-- the next put begins: one writer more may be open, a number is left, and its lines and its pin may be kept
pub record MayOpenWrite (s : State) (actor : ℕ) (key : Key) (request response : List Field) (pin : ℕ) (added : List Rec) : Type 0 where
  pub who : Actor
  pub number : who.0 ≡ actor
  pub quiet : IsQuiet s
  pub few : open_writers s < most_writers
  pub below : s.next_put + 1 < limit
  pub request_fits : AreFields request
  pub response_fits : AreFields response
  pub pin_fits : pin < 2 ^ 64
  pub is : added ≡ rec.WriteOpened who s.next_put key request response pin ∷ []

-- the open writers are counted before the number is looked at; a refusal records nothing
pub data DoesWrite (s : State) (actor : ℕ) (key : Key) (request response : List Field) (pin : ℕ) (added : List Rec) : End → Type 0 where
  opens : MayOpenWrite s actor key request response pin added → DoesWrite s actor key request response pin added Done
  many : IsQuiet s → most_writers ≤ open_writers s → added ≡ [] → DoesWrite s actor key request response pin added (Fails ManyWriters)
  exhausted : IsQuiet s → open_writers s < most_writers → limit ≤ s.next_put + 1 → added ≡ [] → DoesWrite s actor key request response pin added (Fails Exhausted)

-- the fragment that a put cuts next
abbrev pub next_fragment_of : PutRow → PieceId
next_fragment_of w = fragment_piece w.key w.put (length w.cuts + 1)

-- these bytes are the next fragment of the put: only the last one may be short
pub record IsNext (s : State) (put index : ℕ) (payload : List ℕ) (w : PutRow) : Type 0 where
  pub writing : IsWriting s put w
  pub next : index ≡ length w.cuts + 1
  pub few : length w.cuts < most_fragments
  pub full : total_length w.cuts ≡ length w.cuts * s.geometry.fragment
  pub some : 0 < length payload
  pub small : length payload ≤ s.geometry.fragment
  pub of_bytes : IsBytes payload

-- it is cut, then its entry displaces, then it is placed, as the part of the body behind all cut before
pub record MayPlaceFragment (p : Permit) (s : State) (put index : ℕ) (payload : List ℕ) (added : List Rec) : Type 0 where
  pub w : PutRow
  pub displaced : List Rec
  pub cut : IsNext s put index payload w
  pub unmarked : must_unmark p s ≡ false
  pub place : HasPlace s (length payload)
  pub displaces : MayDisplace p s (next_fragment_of w) displaced
  pub is : added ≡ rec.Cut put index (length payload) (digest_of payload)
      ∷ (displaced ++ placed_record s (next_fragment_of w) w.pin (total_length w.cuts) (length payload) payload ∷ [])

-- without room a flush is tried, behind which it is still to be cut; with room the limit is tested, and then a clean mark is
-- taken back, behind which it is still to be cut too
pub data DoesFragment (p : Permit) (s : State) (put index : ℕ) (payload : List ℕ) (added : List Rec) (e : End) : Type 0 where
  unmarks : (w : PutRow) → IsNext s put index payload w → HasPlace s (length payload) → Unmarks p s added e → DoesFragment p s put index payload added e
  places : e ≡ Done → MayPlaceFragment p s put index payload added → DoesFragment p s put index payload added e
  rooms : (w : PutRow) → IsNext s put index payload w → MakesRoom p s (length payload) added e → DoesFragment p s put index payload added e
  exhausted : (w : PutRow) → e ≡ Fails Exhausted → IsNext s put index payload w → HasNoPlace s (length payload) added → DoesFragment p s put index payload added e

-- the put is given up, by its writer or for a fragment too many, a vector too large or a fragment lost
abbrev pub aborted_record : PutRow → Rec
aborted_record w = rec.Aborted w.put w.key

-- a put with all the fragments that it may have is given up for the bytes behind them
pub data DoesOverflow (s : State) (put : ℕ) (added : List Rec) : End → Type 0 where
  aborts : (w : PutRow) → IsWriting s put w → length w.cuts ≡ most_fragments → added ≡ aborted_record w ∷ [] → DoesOverflow s put added (Fails (ManyFragments put))

-- a put with a row for the rest that is not cut yet, for its size alone
abbrev pub with_rest : PutRow → ℕ → PutRow
with_rest w rest = if rest == 0 then w else with_cut (made_row rest []) w

-- the bytes of the vector of the put's alternate alone, with that row
abbrev pub size_alone : PutRow → ℕ → ℕ
size_alone w rest = vector_size (alternate_of (with_rest w rest) ∷ [])

-- with its header that vector takes no more blocks than a piece may: half a buffer
abbrev pub FitsAlone : State → PutRow → ℕ → Type 0
FitsAlone s w rest = blocks_of (size_alone w rest) ≤ budget_of s.geometry

-- the key's live vector has to be read; then the put is given up where its alternate alone is too large
pub data DoesWeigh (p : Permit) (s : State) (put rest : ℕ) (added : List Rec) : End → Type 0 where
  weighs : (w : PutRow) → IsWriting s put w → IsReadWhereLive p s (live_vector_of s w.key) → FitsAlone s w rest → added ≡ [] → DoesWeigh p s put rest added Done
  too_large : (w : PutRow) → IsWriting s put w → IsReadWhereLive p s (live_vector_of s w.key) → budget_of s.geometry < blocks_of (size_alone w rest) → added ≡ aborted_record w ∷ []
      → DoesWeigh p s put rest added (Fails (TooLarge put (size_alone w rest)))
  -- the key's vector is read: a damaged one counts as none from here on
  damaged : (w : PutRow) (row : Row) (found : Digest) → IsWriting s put w → live_vector_of s w.key ≡ Some row → IsDamaged p s row found
      → added ≡ damage_record row row.digest found ∷ [] → DoesWeigh p s put rest added Stays
  faulted : (w : PutRow) (row : Row) (count : ℕ) → IsWriting s put w → live_vector_of s w.key ≡ Some row → IsWritten s row → CountsRead p s row count
      → added ≡ rec.Fault count ∷ [] → DoesWeigh p s put rest added (Fails (Faulted count))

-- the fragment of a put is live
abbrev pub IsFragmentLive : State → PutRow → ℕ → Type 0
IsFragmentLive s w index = (row : Row) × (live_row_of s (fragment_piece w.key w.put index) ≡ Some row)

-- the fragments up to an index are live
abbrev pub AreLiveTo : State → PutRow → ℕ → Type 0
AreLiveTo s w last = (index : ℕ) → 0 < index → index ≤ last → IsFragmentLive s w index

-- all is cut, and the vector of the new alternate alone is a piece
pub record IsCut (s : State) (put fragments : ℕ) (w : PutRow) : Type 0 where
  pub writing : IsWriting s put w
  pub count : length w.cuts ≡ fragments
  pub alone : FitsAlone s w 0

-- the payload of a put's vector: the spelling of the alternates that it is to list
abbrev pub vector_payload : State → ℕ → List ℕ
vector_payload s put = vector_bytes (list_of_put s put)

-- how many bytes that takes
abbrev pub vector_length : State → ℕ → ℕ
vector_length s put = vector_size (list_of_put s put)

-- all fragments are live; it is placed with the greatest pin of the alternates that it lists
pub record MayPlaceVector (p : Permit) (s : State) (put fragments : ℕ) (added : List Rec) : Type 0 where
  pub w : PutRow
  pub displaced : List Rec
  pub cut : IsCut s put fragments w
  pub unmarked : must_unmark p s ≡ false
  pub whole : AreLiveTo s w fragments
  pub place : HasPlace s (vector_length s put)
  pub displaces : MayDisplace p s (vector_piece w.key put) displaced
  pub is : added ≡ displaced ++ placed_record s (vector_piece w.key put) (greatest_pin (list_of_put s put)) 0 (vector_length s put) (vector_payload s put) ∷ []

-- the least index that is not live; there is room for the vector
pub record HasLost (s : State) (put fragments index : ℕ) (w : PutRow) : Type 0 where
  pub cut : IsCut s put fragments w
  pub room : has_room s (vector_length s put) ≡ true
  pub some : 0 < index
  pub within : index ≤ fragments
  pub before : AreLiveTo s w (index - 1)
  pub lost : live_row_of s (fragment_piece w.key put index) ≡ None

-- a flush for room is tried first, then the fragments are looked at, then the place, and then a clean mark is taken back
pub data DoesFinish (p : Permit) (s : State) (put fragments : ℕ) (added : List Rec) (e : End) : Type 0 where
  unmarks : (w : PutRow) → IsCut s put fragments w → AreLiveTo s w fragments → HasPlace s (vector_length s put) → Unmarks p s added e
      → DoesFinish p s put fragments added e
  places : e ≡ Done → MayPlaceVector p s put fragments added → DoesFinish p s put fragments added e
  rooms : (w : PutRow) → IsCut s put fragments w → MakesRoom p s (vector_length s put) added e → DoesFinish p s put fragments added e
  loses : (w : PutRow) (index : ℕ) → e ≡ Fails (Lost put index) → HasLost s put fragments index w → added ≡ aborted_record w ∷ [] → DoesFinish p s put fragments added e
  exhausted : (w : PutRow) → e ≡ Fails Exhausted → IsCut s put fragments w → AreLiveTo s w fragments → HasNoPlace s (vector_length s put) added
      → DoesFinish p s put fragments added e

-- the put is open and its vector is the pending one; the record tells the length of its body, and what the vector lists
pub data DoesCommit (s : State) (put : ℕ) (added : List Rec) : End → Type 0 where
  commits : (w : PutRow) → put_of s put ≡ Some w → w.writing ≡ Open → s.pending ≡ Some (vector_piece w.key put)
      → added ≡ rec.Committed put w.key (total_length w.cuts) (list_of_piece s (vector_piece w.key put)) ∷ [] → DoesCommit s put added Done

-- an open put is aborted; one that is over, or that no record knows, is left
pub data DoesGiveUp (s : State) (put : ℕ) (added : List Rec) : End → Type 0 where
  aborts : (w : PutRow) → IsWriting s put w → added ≡ aborted_record w ∷ [] → DoesGiveUp s put added Done
  over : IsQuiet s → is_writing s put ≡ false → added ≡ [] → DoesGiveUp s put added Done

-- it is the key's live vector that is removed; one that is not live any more is left as it is
pub data DoesRemove (s : State) (key : Key) (added : List Rec) : End → Type 0 where
  removes : (row : Row) → IsQuiet s → live_vector_of s key ≡ Some row → added ≡ rec.Removed row.id.put key ∷ [] → DoesRemove s key added Done
  absent : IsQuiet s → live_vector_of s key ≡ None → added ≡ [] → DoesRemove s key added Done

-- ---- readers

-- the verdict, or the trouble with the vector that was asked for
pub data IsLookup (p : Permit) (s : State) (key : Key) (request : List Field) : List Rec → ReadAnswer → Type 0 where
  verdict : IsReadWhereLive p s (live_vector_of s key) → IsLookup p s key request [] (lookup_verdict s key request)
  trouble : (row : Row) (before : List Rec) (why : Cause) → live_vector_of s key ≡ Some row → Trouble p s row before why
      → IsLookup p s key request before (read.Miss why)

-- each lookup takes the next reader's number, also a miss; trouble with the vector is recorded before it
pub record MayLook (p : Permit) (s : State) (actor : ℕ) (key : Key) (request : List Field) (added : List Rec) : Type 0 where
  pub who : Actor
  pub before : List Rec
  pub answer : ReadAnswer
  pub number : who.0 ≡ actor
  pub quiet : IsQuiet s
  pub right : IsLookup p s key request before answer
  pub is : added ≡ before ++ rec.ReadOpened s.next_reader who key request answer ∷ []

-- a lookup is never refused: a fault of the device is the cause of a miss
pub data DoesLook (p : Permit) (s : State) (actor : ℕ) (key : Key) (request : List Field) (added : List Rec) : End → Type 0 where
  looks : MayLook p s actor key request added → DoesLook p s actor key request added Done

-- the payload of a piece has the digest that is listed of it
abbrev pub IsAsListed : Row → TableRow → Type 0
IsAsListed row entry = (payload : TableRow) → row.payload ≡ Some payload → digest_in payload ≡ digest_in entry

-- it has this one, which is another
pub record IsUnlike (row : Row) (entry : TableRow) (found : Digest) : Type 0 where
  pub payload : TableRow
  pub has : row.payload ≡ Some payload
  pub found_is : found ≡ digest_in payload
  pub differ : digest_in entry ≢ found

-- the fragment that a reader takes next cannot be given: it cannot be read, or its payload is not the one that is listed,
-- as it may be of a piece that an opening found
pub data ReadTrouble (p : Permit) (s : State) (row : Row) (entry : TableRow) : List Rec → Cause → Type 0 where
  troubled : (before : List Rec) (why : Cause) → Trouble p s row before why → ReadTrouble p s row entry before why
  mismatched : (found : Digest) → IsRead p s row → IsUnlike row entry found
      → ReadTrouble p s row entry (damage_record row (digest_in entry) found ∷ []) (damage_cause row (digest_in entry) found)

-- the fragment that a reader takes next, where it is cut and live
abbrev pub live_next : State → ReaderRow → Option Row
live_next s r = option_and_then (λ (entry : TableRow). live_row_of s (next_piece r)) (next_row s r)

-- its payload is the one that the reader's table lists, or that the writer has cut
abbrev pub IsNextAsListed : State → ReaderRow → Type 0
IsNextAsListed s r = (entry : TableRow) (row : Row) → next_row s r ≡ Some entry → live_row_of s (next_piece r) ≡ Some row → IsAsListed row entry

-- the verdict, or the trouble with the next fragment, which has to be cut and live
pub data IsReading (p : Permit) (s : State) (r : ReaderRow) : List Rec → NextAnswer → Type 0 where
  verdict : IsReadWhereLive p s (live_next s r) → IsNextAsListed s r → IsReading p s r [] (reader_verdict s r)
  trouble : (entry : TableRow) (row : Row) (before : List Rec) (why : Cause) → next_row s r ≡ Some entry → live_row_of s (next_piece r) ≡ Some row
      → ReadTrouble p s row entry before why → IsReading p s r before (next.Broke why)

-- what a reader is answered is recorded with its number, a wait and an end too
abbrev pub answer_record : ℕ → NextAnswer → Rec
answer_record reader (next.Gave index length) = rec.Gave reader index length
answer_record reader (next.Ended length) = rec.Ended reader length
answer_record reader (next.Waited cut) = rec.Waited reader cut
answer_record reader (next.Broke why) = rec.Broke reader why

-- an open reader is answered; trouble with the piece is recorded before the answer
pub record MayReadOn (p : Permit) (s : State) (reader : ℕ) (answer : NextAnswer) (added : List Rec) : Type 0 where
  pub r : ReaderRow
  pub before : List Rec
  pub quiet : IsQuiet s
  pub reading : reader_of s reader ≡ Some r
  pub right : IsReading p s r before answer
  pub is : added ≡ before ++ answer_record reader answer ∷ []

-- one answer, never a refusal: a fault of the device is why the reader breaks
pub data DoesReadOn (p : Permit) (s : State) (reader : ℕ) (added : List Rec) : End → Type 0 where
  reads_on : (answer : NextAnswer) → MayReadOn p s reader answer added → DoesReadOn p s reader added Done

-- a fragment was given, so a reader that reads all goes on behind it
abbrev pub is_given : NextAnswer → Bool
is_given (next.Gave index length) = true
is_given _ = false

-- the reader is open and hit something
abbrev pub has_hit : State → ℕ → Bool
has_hit s reader = is_some (option_and_then (λ (r : ReaderRow). r.table) (reader_of s reader))

-- answers up to the first without a fragment; none where nothing was hit, as by a reader that follows
pub data DoesReadAll (p : Permit) (s : State) (reader : ℕ) (added : List Rec) (e : End) : Type 0 where
  reads_on : (answer : NextAnswer) → has_hit s reader ≡ true → MayReadOn p s reader answer added → e ≡ cond (is_given answer) Stays Done → DoesReadAll p s reader added e
  has_none : IsQuiet s → has_hit s reader ≡ false → added ≡ [] → e ≡ Done → DoesReadAll p s reader added e

-- a reader that is closed already, or that a miss did not open, is left
pub data DoesStopReading (s : State) (reader : ℕ) (added : List Rec) : End → Type 0 where
  closes : (r : ReaderRow) → IsQuiet s → reader_of s reader ≡ Some r → added ≡ rec.ReadClosed reader ∷ [] → DoesStopReading s reader added Done
  closed : IsQuiet s → reader_of s reader ≡ None → added ≡ [] → DoesStopReading s reader added Done

-- ---- a step

-- these records come next, together, for what is asked
abbrev pub Does : Permit → State → Intent → List Rec → End → Type 0
Does p s Flush added e = DoesFlush p s added e
Does p s Sync added e = DoesSync p AtOnce s added e
Does p s SyncBegin added e = DoesSync p InParts s added e
Does p s (SyncStep last) added e = DoesSyncStep p s last added e
Does p s Drain added e = DoesDrain p s added e
Does p s CleanSync added e = DoesCleanSync p s added e
Does p s (Write actor key request response pin) added e = DoesWrite s actor key request response pin added e
Does p s (Fragment put index payload) added e = DoesFragment p s put index payload added e
Does p s (Overflow put) added e = DoesOverflow s put added e
Does p s (Weigh put rest) added e = DoesWeigh p s put rest added e
Does p s (Finish put fragments) added e = DoesFinish p s put fragments added e
Does p s (Commit put) added e = DoesCommit s put added e
Does p s (GiveUp put) added e = DoesGiveUp s put added e
Does p s (Remove key) added e = DoesRemove s key added e
Does p s (Look actor key request) added e = DoesLook p s actor key request added e
Does p s (ReadOn reader) added e = DoesReadOn p s reader added e
Does p s (ReadAll reader) added e = DoesReadAll p s reader added e
Does p s (StopReading reader) added e = DoesStopReading s reader added e

-- one group: what is asked first comes to an end, or stays; where nothing is left, nothing comes
abbrev pub Advances : Permit → State → List Intent → Option Reason → List Rec → Work → Type 0
Advances p s [] why added after = ⊥
Advances p s (i ∷ rest) why added after = (e : End) × Does p s i added e × (after ≡ work_after i rest why e)

-- from some work to what is left of it, group after group
pub data MayGrow (p : Permit) : State → Work → List Rec → Work → Type 0 where
  nothing : {s : State} {w : Work} → MayGrow p s w [] w
  more : {s : State} {w after : Work} {rest : List Rec} (added : List Rec) (between : Work)
      → Advances p s w.intents w.refused added between
      → MayGrow p (after_all s added) between rest after → MayGrow p s w (added ++ rest) after

-- a whole step: nothing is left but what a refusal excused, no vector is pending, each call that the device refused has its
-- record, in order, and no other fault is there; of a stripe that does not sync so has each call that was no read
pub record IsStep (p : Permit) (s : State) (intents : List Intent) (added : List Rec) (refused : Option Reason) : Type 0 where
  pub grows : MayGrow p s (to_do intents) added (record { intents = []; refused = refused })
  pub quiet : IsQuiet (after_all s added)
  pub faults : denials (effects_told added) ≡ denials (effects_in p.events)
  pub effects : p.syncs ≡ false → effects_told added ≡ effects_in p.events

-- ---- a chronicle

-- a session begins with a format, and its first buffer
abbrev pub format_records : Geometry → List Rec
format_records geometry = rec.Formatted geometry ∷ rec.Began geometry.content (floor_of geometry geometry.content) ∷ []

-- a step as it went: what the device did in it, what it was asked, and why it did less
pub record Course : Type 0 where
  pub permit : Permit
  pub intents : List Intent
  pub refused : Option Reason

-- by this call the switch of a device is told something
abbrev pub IsOfSwitch : Call → Type 0
IsOfSwitch (Told act) = Unit {0}
IsOfSwitch (Flipped at byte) = Unit {0}
IsOfSwitch _ = ⊥

-- The records of a session up to the end of a step, from a format or an opening on and by its steps, of a stripe of one
-- setting, whose device has made these calls by then: those before the session, those of its steps, and between them those
-- by which its switch was told something.
pub data IsLegal (setting : Setting) : (past : List Call) → List Course → List Rec → Type 0 where
  begins : {past : List Call} (geometry : Geometry) → IsLegal setting past [] (format_records geometry)
  opens : {past : List Call} (geometry : Geometry) (o : Opening) → IsOpening setting.packed geometry o
      → IsLegal setting past [] (opened_records geometry o)
  steps : {past : List Call} {courses : List Course} {before added : List Rec} (course : Course) → IsSetBy setting past course.permit
      → IsLegal setting past courses before → IsStep course.permit (after_all nothing_yet before) course.intents added course.refused
      → IsLegal setting (course.permit.events ++ past) (courses ++ course ∷ []) (before ++ added)
  tells : {past : List Call} {courses : List Course} {recs : List Rec} (call : Call) → IsOfSwitch call → IsLegal setting past courses recs
      → IsLegal setting (call ∷ past) courses recs
