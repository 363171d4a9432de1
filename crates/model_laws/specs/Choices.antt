-- How many groups of records fit what is asked: one at most where the device is faithful, and one at
-- least wherever it may be asked; and what a group has read.
use Rattle.std.specs.Prelude.{ℕ, ◌≡◌, ◌-◌, ◌*◌, ◌^◌, ◌<◌, ◌≤◌, ◌⊎◌, true, false, List, [], ◌∷◌, length, Option, Some, None}
use Rattle.hex.specs.Hex.{IsBytes}
use Rattle.device_log.specs.Calls.{Asked, Read, RefusedCall}
use Rattle.tape_base.specs.declared.keys.Key.{Key}
use Rattle.tape_base.specs.declared.pieces.PieceId.{PieceId}
use Rattle.tape_base.specs.declared.actors.Actor.{Actor}
use Rattle.tape_base.specs.Geometry.{budget_of}
use Rattle.doc_header.specs.Reading.{document_digest}
use Rattle.alternate_vector.specs.Field.{Field, AreFields}
use Rattle.tape_base.specs.Place.{block_of}
use Rattle.cache_model.specs.declared.answer.ReadAnswer.TheVariants as read
use Rattle.cache_model.specs.declared.answer.NextAnswer.TheVariants as next
use Rattle.cache_model.specs.declared.record.Rec.{Rec}
use Rattle.cache_model.specs.State.{State, Row, PutRow, ReaderRow, Open, live_row_of, put_of, reader_of, vector_piece, most_fragments}
use Rattle.cache_model.specs.Verdict.{live_vector_of, next_piece}
use Rattle.cache_model.specs.Permit.{Permit, IsAmong, Intent, Flush, Sync, SyncBegin, SyncStep, Drain, CleanSync, Write, Fragment, Overflow, Weigh, Finish, Commit, GiveUp, Remove, Look, ReadOn, ReadAll, StopReading, End}
use Rattle.cache_model.specs.Due.{due_pieces}
use Rattle.cache_model.specs.Tape.{IsSound}
use Rattle.cache_model.specs.Given.{CountsRead, CountsWrite, IsGiven, IsWritten, TakesBuffer}
use Rattle.cache_model.specs.ToRead.{flushes_first, to_read}
use Rattle.cache_model.specs.Legal.{CanFlush, Does, IsCut, IsNext, IsNextAsListed, IsLookup, IsQuiet, IsReading, IsWriting}

-- ---- one at most

-- as many bytes as the device gave twice from one block on in the step are the same
abbrev pub GivesOnce : Permit → Type 0
GivesOnce p = (at : ℕ) (one other : List ℕ) → IsAmong (Read at one) p.events → IsAmong (Read at other) p.events
    → length one ≡ length other → one ≡ other

-- the directory displaces nothing, the device refuses no call in the step, what it gives from a block on is
-- one string of bytes, and for a live piece it is what was kept of it
pub record IsFaithful (p : Permit) (s : State) : Type 0 where
  pub displaces_nothing : p.packed ≡ false
  pub unrefused : (asked : Asked) (count : ℕ) → IsAmong (RefusedCall asked count) p.events → ⊥
  pub once : GivesOnce p
  pub kept : (id : PieceId) (row : Row) (bytes : List ℕ) → live_row_of s id ≡ Some row → IsGiven p s row bytes → row.digest ≡ document_digest bytes

-- there, on a sound tape and of a stripe that does not sync, what is asked fixes the records of a group, and how it ends
abbrev pub GroupIsFixed : Type 0
GroupIsFixed = (p : Permit) (s : State) (i : Intent) (one other : List Rec) (e f : End) → IsSound s → p.syncs ≡ false → IsFaithful p s
    → Does p s i one e → Does p s i other f → (one ≡ other) × (e ≡ f)

-- ---- one at least

-- a live piece is in the buffer, or the device gave bytes for it in this step, or refused to
pub data IsTried (p : Permit) (s : State) (row : Row) : Type 0 where
  buffered : s.cursor ≤ row.place → IsTried p s row
  given : (bytes : List ℕ) → IsGiven p s row bytes → IsTried p s row
  refused : (count : ℕ) → IsWritten s row → CountsRead p s row count → IsTried p s row

-- what is asked for was tried, where it is live
abbrev pub IsTriedWhereLive : Permit → State → Option Row → Type 0
IsTriedWhereLive p s None = Unit {0}
IsTriedWhereLive p s (Some row) = IsTried p s row

-- the device's last fault stands at this count
abbrev pub with_fault : ℕ → State → State
with_fault count s = record s { fault = count }

-- the pieces within the budget were tried one behind the other: the device gave bytes for a piece,
-- whatever they are, or refused it with a count that rose above those before; the last state has the last of these
pub data AreTried (p : Permit) : State → ℕ → List Row → State → Type 0 where
  nothing : {s : State} {left : ℕ} → AreTried p s left [] s
  no_room : {s t : State} {left : ℕ} {row : Row} {rows : List Row} → left < row.blocks
      → AreTried p s left rows t → AreTried p s left (row ∷ rows) t
  given : {s t : State} {left : ℕ} {row : Row} {rows : List Row} (bytes : List ℕ) → row.blocks ≤ left → IsGiven p s row bytes
      → AreTried p s (left - row.blocks) rows t → AreTried p s left (row ∷ rows) t
  refused : {s t : State} {left : ℕ} {row : Row} {rows : List Row} (count : ℕ) → row.blocks ≤ left → IsWritten s row
      → CountsRead p s row count → AreTried p (with_fault count s) (left - row.blocks) rows t → AreTried p s left (row ∷ rows) t

-- the device gave some bytes for the piece in the step, in one read of its blocks
pub record GaveBytesFor (p : Permit) (s : State) (row : Row) : Type 0 where
  pub bytes : List ℕ
  pub given : IsAmong (Read (block_of s.geometry row.place) bytes) p.events
  pub whole : length bytes ≡ 512 * row.blocks
  pub of_bytes : IsBytes bytes

-- the device took the buffer, or refused it with a count that rose above that of the last fault before it
pub data IsBufferTried (p : Permit) (s behind : State) : Type 0 where
  taken : TakesBuffer p s → IsBufferTried p s behind
  refused : (count : ℕ) → CountsWrite p behind count → IsBufferTried p s behind

-- a flush was tried: what it is to copy within the budget, and behind that the buffer
pub record IsFlushTried (p : Permit) (s : State) : Type 0 where
  pub behind : State
  pub due : AreTried p s (budget_of s.geometry) (due_pieces s p.now) behind
  pub buffer : IsBufferTried p s behind

-- where what is asked begins with a flush that may be made, that was tried
abbrev pub AreDueTried : Permit → State → Intent → Type 0
AreDueTried p s i = flushes_first s i ≡ true → CanFlush s → IsFlushTried p s

-- an actor has this number
abbrev pub IsActorNumber : ℕ → Type 0
IsActorNumber actor = (who : Actor) × (who.0 ≡ actor)

-- the put is open, and its vector was placed last
pub record IsPending (s : State) (put : ℕ) (w : PutRow) : Type 0 where
  pub found : put_of s put ≡ Some w
  pub is_open : w.writing ≡ Open
  pub pending : s.pending ≡ Some (vector_piece w.key put)

-- a writer may be asked for with these lines and this pin
pub record MayAskWrite (s : State) (actor : ℕ) (request response : List Field) (pin : ℕ) : Type 0 where
  pub quiet : IsQuiet s
  pub number : IsActorNumber actor
  pub request_fits : AreFields request
  pub response_fits : AreFields response
  pub pin_fits : pin < 2 ^ 64

-- this may be asked here of a stripe that does not sync, and so no sync: no vector is pending but that of a commit, and what
-- is spoken of is open
abbrev pub MayAsk : State → Intent → Type 0
MayAsk s Flush = IsQuiet s
MayAsk s Sync = ⊥
MayAsk s SyncBegin = ⊥
MayAsk s (SyncStep last) = ⊥
MayAsk s Drain = ⊥
MayAsk s CleanSync = ⊥
MayAsk s (Write actor key request response pin) = MayAskWrite s actor request response pin
MayAsk s (Fragment put index payload) = (w : PutRow) × IsNext s put index payload w
MayAsk s (Overflow put) = (w : PutRow) × IsWriting s put w × (length w.cuts ≡ most_fragments)
MayAsk s (Weigh put rest) = (w : PutRow) × IsWriting s put w
MayAsk s (Finish put fragments) = (w : PutRow) × IsCut s put fragments w
MayAsk s (Commit put) = (w : PutRow) × IsPending s put w
MayAsk s (GiveUp put) = IsQuiet s
MayAsk s (Remove key) = IsQuiet s
MayAsk s (Look actor key request) = IsQuiet s × IsActorNumber actor
MayAsk s (ReadOn reader) = IsQuiet s × ((r : ReaderRow) × (reader_of s reader ≡ Some r))
MayAsk s (ReadAll reader) = IsQuiet s
MayAsk s (StopReading reader) = IsQuiet s

-- on a sound tape what may be asked of a stripe that does not sync can be done, or is refused, whatever the device gives
abbrev pub AskedIsAnswered : Type 0
AskedIsAnswered = (p : Permit) (s : State) (i : Intent) → IsSound s → p.syncs ≡ false → MayAsk s i → IsTriedWhereLive p s (to_read s i) → AreDueTried p s i
    → (added : List Rec) × (e : End) × Does p s i added e

-- ---- what was read

-- what has to be read for an answer was in the buffer, or was read or refused in the step, and of a stripe that does not
-- sync so was what a flush is to copy, and the buffer that it writes out was taken or refused
abbrev pub AnsweredIsTried : Type 0
AnsweredIsTried = (p : Permit) (s : State) (i : Intent) (added : List Rec) (e : End) → Does p s i added e
    → IsTriedWhereLive p s (to_read s i) × (p.syncs ≡ false → AreDueTried p s i)

-- a piece is in the buffer, or the device gave its blocks in this step, with the digest that was kept
abbrev pub WasRead : Permit → State → Row → Type 0
WasRead p s row = (s.cursor ≤ row.place) ⊎ ((bytes : List ℕ) × IsGiven p s row bytes × (row.digest ≡ document_digest bytes))

-- a vector that is hit was read
abbrev pub HitIsRead : Type 0
HitIsRead = (p : Permit) (s : State) (key : Key) (request : List Field) (before : List Rec) (put : ℕ) (row : Row)
    → live_vector_of s key ≡ Some row → IsLookup p s key request before (read.Hit put) → WasRead p s row

-- a fragment that is given is live, and was read, and its payload is the one that is listed
abbrev pub GivenIsRead : Type 0
GivenIsRead = (p : Permit) (s : State) (r : ReaderRow) (before : List Rec) (index n : ℕ)
    → IsReading p s r before (next.Gave index n) → ((row : Row) × (live_row_of s (next_piece r) ≡ Some row) × WasRead p s row) × IsNextAsListed s r
