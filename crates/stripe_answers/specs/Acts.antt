-- What writers and readers do, and when they may.
use Rattle.std.specs.Prelude.{ℕ, ◌≡◌, ◌+◌, ◌<◌, ◌≤◌, true, List, [], ◌∷◌, ◌++◌, length, Option, Some, None, Result, Ok, Err}
use Rattle.tape_base.specs.declared.actors.Actor.{Actor}
use Rattle.tape_base.specs.declared.digests.Digest.{Digest}
use Rattle.tape_base.specs.declared.keys.Key.{Key}
use Rattle.tape_base.specs.declared.pieces.PieceId.{PieceId}
use Rattle.fragment_table.specs.Table.{TableRow, total_length}
use Rattle.alternate_vector.specs.Field.{Field}
use Rattle.alternate_vector.specs.Alternates.{Stored}
use Rattle.cache_model.specs.declared.answer.NextAnswer.{NextAnswer}
use Rattle.cache_model.specs.declared.answer.NextAnswer.TheVariants as next
use Rattle.cache_model.specs.declared.answer.ReadAnswer.{ReadAnswer}
use Rattle.cache_model.specs.declared.answer.ReadAnswer.TheVariants as read
use Rattle.cache_model.specs.declared.cause.Cause.TheVariants as cause
use Rattle.cache_model.specs.declared.record.Rec.{Rec}
use Rattle.cache_model.specs.declared.record.Rec.TheVariants as rec
use Rattle.cache_model.specs.State.{Open, PutRow, ReaderRow, Row, State, list_of_piece, live_row_of, put_of, reader_of, state_after, vector_piece, most_fragments}
use Rattle.stripe_actors.specs.Actors.{ActorsSeen, AreActors}
use Rattle.cache_model.specs.Verdict.{cuts_of, digest_in}
use Rattle.cache_model.specs.Permit.{Commit, Done, Exhausted, Fails, GiveUp, Look, ManyWriters, Permit, ReadOn, Remove, StopReading, Write}
use Rattle.cache_model.specs.Given.{IsRead}
use Rattle.cache_model.specs.Room.{limit}
use Rattle.cache_model.specs.Legal.{Does, IsLookup, IsQuiet, IsReading, IsUnlike, IsWriting, ReadTrouble, answer_record, is_writing, most_writers, open_writers}
use Rattle.stripe_actors.specs.Calls.{HasPutNumber}
use Rattle.cache_answers.specs.declared.answers.Refusal.{Refusal}
use Rattle.cache_answers.specs.declared.answers.Refusal.TheVariants as refusal

-- ---- a writer opens

-- the record of a writer that opens: it has the number of the next put
abbrev pub write_opened_record : State → Actor → Key → List Field → List Field → ℕ → Rec
write_opened_record s who key request response pin = rec.WriteOpened who s.next_put key request response pin

-- it has the next number; or as many are open as may be, or else the numbers have an end
abbrev pub OpensAsAsked : State → Actor → Key → List Field → List Field → ℕ → Result ℕ Refusal → Type 0
OpensAsAsked s who key request response pin (Ok put) =
    (put ≡ s.next_put) × ((p : Permit) → Does p s (Write who.0 key request response pin) (write_opened_record s who key request response pin ∷ []) Done)
OpensAsAsked s who key request response pin (Err refusal.TooManyWriters) =
    (most_writers ≤ open_writers s) × ((p : Permit) → Does p s (Write who.0 key request response pin) [] (Fails ManyWriters))
OpensAsAsked s who key request response pin (Err (refusal.Exhausted number)) =
    (number ≡ s.next_put + 1) × ((p : Permit) → Does p s (Write who.0 key request response pin) [] (Fails Exhausted))
OpensAsAsked s who key request response pin (Err (refusal.Memory e)) = HasPutNumber s
OpensAsAsked s who key request response pin (Err _) = ⊥

-- why no put can be opened; there is no other reason but want of memory
abbrev pub IsRefusedPut : State → Option Refusal → Type 0
IsRefusedPut s None = HasPutNumber s
IsRefusedPut s (Some refusal.TooManyWriters) = most_writers ≤ open_writers s
IsRefusedPut s (Some (refusal.Exhausted number)) = (open_writers s < most_writers) × (limit ≤ s.next_put + 1) × (number ≡ s.next_put + 1)
IsRefusedPut s (Some _) = ⊥

-- whoever asks for a put is refused so
abbrev pub RefusesAsAsked : State → Refusal → Type 0
RefusesAsAsked s why = (who : Actor) (key : Key) (request response : List Field) (pin : ℕ) → OpensAsAsked s who key request response pin (Err why)

-- ---- it ends

-- the put of that key is open, and its vector is the piece that was placed last
pub record IsCommitting (s : State) (put : ℕ) (key : Key) : Type 0 where
  pub w : PutRow
  pub found : put_of s put ≡ Some w
  pub is_open : w.writing ≡ Open
  pub key_is : w.key ≡ key
  pub pending : s.pending ≡ Some (vector_piece w.key put)

-- the record of a put that is complete, with the bytes of all its fragments and the list of its vector
abbrev pub committed_record : State → ℕ → Key → List Stored → Rec
committed_record s put key list = rec.Committed put key (total_length (cuts_of s put)) list

-- where the list is what the vector lists that was placed, that record does what committing asks, in any step
abbrev pub CommitsAsAsked : State → ℕ → Key → List Stored → Type 0
CommitsAsAsked s put key list = list ≡ list_of_piece s (vector_piece key put) → (p : Permit) → Does p s (Commit put) (committed_record s put key list ∷ []) Done

-- the put of that key is open, and none of its pieces is a vector
pub record IsGivingUp (s : State) (put : ℕ) (key : Key) : Type 0 where
  pub w : PutRow
  pub writing : IsWriting s put w
  pub key_is : w.key ≡ key

-- the record of its end does what giving up asks, in any step
abbrev pub GivesUpAsAsked : State → ℕ → Key → Type 0
GivesUpAsAsked s put key = (p : Permit) → Does p s (GiveUp put) (rec.Aborted put key ∷ []) Done

-- ---- an object is removed

-- the record of a removal does what removing asks, in any step
abbrev pub RemovesAsAsked : State → Key → ℕ → Type 0
RemovesAsAsked s key put = (p : Permit) → Does p s (Remove key) (rec.Removed put key ∷ []) Done

-- ---- readers

-- a writer that is followed is open
abbrev pub IsFollowable : State → ReadAnswer → Type 0
IsFollowable s (read.Follow put) = is_writing s put ≡ true
IsFollowable s (read.Hit put) = Unit {0}
IsFollowable s (read.Miss why) = Unit {0}

-- a fragment that is given is one that a put may have
abbrev pub IsGivable : NextAnswer → Type 0
IsGivable (next.Gave index length) = index ≤ most_fragments
IsGivable (next.Ended length) = Unit {0}
IsGivable (next.Waited cut) = Unit {0}
IsGivable (next.Broke why) = Unit {0}

-- actors that were in step with a state in which a followed writer is open are in step behind the answer
abbrev pub AnswersLookup : ℕ → ReadAnswer → ActorsSeen → ActorsSeen → Type 0
AnswersLookup reader answer old new = (s : State) (who : Actor) (key : Key) (request : List Field) → IsFollowable s answer → AreActors s old
    → AreActors (state_after s (rec.ReadOpened reader who key request answer)) new

-- Of a step in which a vector is not pending and that has this number still to give: where any trouble with the key's vector is
-- recorded first, and this is the answer, the reader's record behind it does what a lookup asks.
abbrev pub LooksAsAsked : State → Actor → Key → List Field → ReadAnswer → Type 0
LooksAsAsked t who key request answer = (p : Permit) (s : State) (before : List Rec) → s.next_reader ≡ t.next_reader → IsQuiet s → IsLookup p s key request before answer
    → Does p s (Look who.0 key request) (before ++ rec.ReadOpened s.next_reader who key request answer ∷ []) Done

-- where any trouble with the next fragment is recorded first, and this is the answer, its record behind it does what reading on
-- asks, in any step
abbrev pub NotesAsAsked : ℕ → NextAnswer → Type 0
NotesAsAsked reader answer = (p : Permit) (s : State) (r : ReaderRow) (before : List Rec) → IsQuiet s → reader_of s reader ≡ Some r → IsReading p s r before answer
    → Does p s (ReadOn reader) (before ++ answer_record reader answer ∷ []) Done

-- of a live piece that was read, and whose payload is not the one that a table lists, it tells the trouble, in any step
abbrev pub MarksAsAsked : State → PieceId → (kept found : Digest) → Type 0
MarksAsAsked s id kept found = (p : Permit) (row : Row) (entry : TableRow) → live_row_of s id ≡ Some row → digest_in entry ≡ kept → IsRead p s row → IsUnlike row entry found
    → ReadTrouble p s row entry (rec.Damaged id row.place kept found ∷ []) (cause.Damaged row.place kept found)

-- where no vector is pending and the reader is open, the record of its end does what closing it asks, in any step
abbrev pub EndsReadAsAsked : State → ℕ → Type 0
EndsReadAsAsked s reader = (r : ReaderRow) → IsQuiet s → reader_of s reader ≡ Some r → (p : Permit) → Does p s (StopReading reader) (rec.ReadClosed reader ∷ []) Done
