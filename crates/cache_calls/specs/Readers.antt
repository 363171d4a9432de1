-- What readers are answered, and what then stands in the records.
use Rattle.std.specs.Prelude.{ℕ, ◌≡◌, ◌+◌, ◌⊎◌, List, [], ◌∷◌, ◌++◌, Option, Some, None, Result, Ok, Err, IfOk, option_map, unwrap_or}
use Rattle.std.specs.declared.alloc.AllocError.{AllocError}
use Rattle.tape_base.specs.declared.actors.Actor.{Actor}
use Rattle.tape_base.specs.declared.digests.Digest.{Digest}
use Rattle.tape_base.specs.declared.keys.Key.{Key}
use Rattle.device_log.specs.Calls.{Call}
use Rattle.fragment_table.specs.Table.{TableRow, total_length}
use Rattle.alternate_vector.specs.Field.{Field}
use Rattle.cache_model.specs.declared.answer.NextAnswer.{NextAnswer}
use Rattle.cache_model.specs.declared.answer.NextAnswer.TheVariants as next
use Rattle.cache_model.specs.declared.answer.ReadAnswer.{ReadAnswer}
use Rattle.cache_model.specs.declared.answer.ReadAnswer.TheVariants as read
use Rattle.cache_model.specs.declared.cause.Cause.{Cause}
use Rattle.cache_model.specs.declared.cause.Cause.TheVariants as cause
use Rattle.cache_model.specs.declared.record.Rec.{Rec}
use Rattle.cache_model.specs.declared.record.Rec.TheVariants as rec
use Rattle.cache_model.specs.State.{Row, State, live_row_of}
use Rattle.cache_model.specs.Verdict.{cause_of_miss, cause_of_piece, live_vector_of, next_piece, next_row}
use Rattle.cache_model.specs.Permit.{Permit}
use Rattle.cache_model.specs.Given.{IsDocumentOf}
use Rattle.cache_model.specs.Legal.{IsAsListed, IsUnlike, answer_record, live_next}
use Rattle.cache_model.specs.Troubles.{cause_records}
use Rattle.cache_model.specs.Vectors.{AreTold}
use Rattle.call_laws.specs.Moments.{At, BothFacts, Encloses, Facts}
use Rattle.cache_answers.specs.declared.answers.NextPiece.{NextPiece}
use Rattle.cache_answers.specs.declared.answers.NextPiece.TheVariants as piece
use Rattle.cache_answers.specs.declared.answers.Opened.{Opened}
use Rattle.cache_answers.specs.declared.answers.Opened.TheVariants as opened
use Rattle.cache_calls.specs.Actors.{IsOpenReader, IsReaderOf, ReaderSeen, as_row}
use Rattle.cache_calls.specs.Adds.{AddsAll, AddsFault, IsAsItWas}
use Rattle.cache_calls.specs.Keeping.{AreSeen, state_at}

-- ---- troubles

-- a fault that is told as a cause was recorded, with its count
abbrev pub IsCountedCause : (old new : At) → Cause → Type 0
IsCountedCause old new (cause.DeviceFault count) = AddsFault count old new
IsCountedCause old new _ = Unit {0}

-- ---- a reader opens

-- the answer by which what was opened is recorded
abbrev pub answer_in : {R : Type 0} → Opened R → ReadAnswer
answer_in (opened.Hit reader put length) = read.Hit put
answer_in (opened.Follow reader put) = read.Follow put
answer_in (opened.Miss why) = read.Miss why

-- something holds of the reader that was opened, where one was
abbrev pub IfReader : {R : Type 0} → (R → Type 0) → Opened R → Type 0
IfReader P (opened.Hit reader put length) = P reader
IfReader P (opened.Follow reader put) = P reader
IfReader P (opened.Miss why) = Unit {0}

-- the record of what kept the key's live vector from being read
abbrev pub vector_trouble : Option Row → ReadAnswer → List Rec
vector_trouble None answer = []
vector_trouble (Some row) (read.Miss why) = cause_records row why
vector_trouble (Some row) _ = []

-- the records of a lookup: the trouble with the key's vector, where that is the cause, and the answer
abbrev pub open_adds : State → Actor → Key → List Field → ReadAnswer → List Rec
open_adds s who key request answer =
    vector_trouble (live_vector_of s key) answer ++ rec.ReadOpened s.next_reader who key request answer ∷ []

-- the length of the body that a reader hit
abbrev pub length_in : ReaderSeen → Option ℕ
length_in r = option_map total_length r.table

-- the reader has the next number; the put and the length are those that it has
abbrev pub TellsReader : {R : Type 0} → (R → ReaderSeen) → ℕ → Opened R → Type 0
TellsReader seen number (opened.Hit reader put length) =
    ((seen reader).reader ≡ number) × (put ≡ (seen reader).put) × (length_in (seen reader) ≡ Some length)
TellsReader seen number (opened.Follow reader put) =
    ((seen reader).reader ≡ number) × (put ≡ (seen reader).put) × ((seen reader).table ≡ None)
TellsReader seen number (opened.Miss why) = Unit {0}

-- the cause of a miss is that of the records before, or is no fault but one that was recorded now
abbrev pub IsCountedMiss : (old new : At) → Key → ReadAnswer → Type 0
IsCountedMiss old new key (read.Miss why) =
    (why ≡ cause_of_miss (state_at old) key) ⊎ IsCountedCause old new why
IsCountedMiss old new key _ = Unit {0}

-- what came of a lookup: its records, and a reader that is open
pub record HasLooked {R : Type 0} (seen : R → ReaderSeen) (old new : At) (who : Actor) (key : Key) (request : List Field)
    (answer : Opened R) : Type 0 where
  pub adds : AddsAll (open_adds (state_at old) who key request (answer_in answer)) old new
  pub tells : TellsReader seen (state_at old).next_reader answer
  pub reader : IfReader (λ r. IsOpenReader (state_at new) (seen r)) answer
  pub counted : IsCountedMiss old new key (answer_in answer)
  pub read : AreSeen old new

-- or memory was wanting, and nothing is recorded
abbrev pub OpensReader : {R : Type 0} → (R → ReaderSeen) → (old new : At) → Actor → Key → List Field → Result (Opened R) AllocError → Type 0
OpensReader seen old new who key request (Ok answer) = HasLooked seen old new who key request answer
OpensReader seen old new who key request (Err e) = IsAsItWas old new

-- the reader has the fragments of the records: known behind a lookup where no pair is shown
abbrev pub HasItsTable : {R : Type 0} → (R → ReaderSeen) → Result (Opened R) AllocError → Facts
HasItsTable seen result t = IfOk result (IfReader (λ r. IsReaderOf t (seen r)))

-- ---- a reader reads on

-- vectors list their alternates, and the reader has the fragments of the records
abbrev pub IsToldTo : ReaderSeen → Facts
IsToldTo r = BothFacts AreTold (λ s. IsReaderOf s r)

-- an answer as it is recorded, where the fragment is listed with that length
abbrev pub noted : ℕ → NextPiece → NextAnswer
noted listed (piece.Piece index length) = next.Gave index listed
noted listed (piece.End length) = next.Ended length
noted listed (piece.NotYet cut) = next.Waited cut
noted listed (piece.Broken why) = next.Broke why

-- the length with which the fragment that it takes next is listed
abbrev pub listed_length : State → ReaderSeen → ℕ
listed_length s r = unwrap_or (option_map (λ (row : TableRow). row.length) (next_row s (as_row r))) 0

-- the record of what kept the next fragment, where it is live, from being given
abbrev pub next_trouble : Option Row → NextPiece → List Rec
next_trouble None answer = []
next_trouble (Some row) (piece.Broken why) = cause_records row why
next_trouble (Some row) _ = []

-- the trouble with that fragment, where that is the cause, and the answer
abbrev pub read_adds : State → ReaderSeen → NextPiece → List Rec
read_adds s r answer = next_trouble (live_next s (as_row r)) answer ++ answer_record r.reader (noted (listed_length s r) answer) ∷ []

-- the fragment that it takes next is live, and this is its payload: of bytes that have the recorded digest; by the records it
-- is the one that the reader's table lists, or that the writer has cut
pub record IsFragment (p : Permit) (s : State) (r : ReaderSeen) (index size : ℕ) (into : List ℕ) : Type 0 where
  pub entry : TableRow
  pub row : Row
  pub index_is : index ≡ r.next
  pub cut : next_row s (as_row r) ≡ Some entry
  pub live : live_row_of s (next_piece (as_row r)) ≡ Some row
  pub document : IsDocumentOf p s row size into
  pub listed : IsAsListed row entry

-- the fragment, where one is given; any other answer gives no bytes
abbrev pub IsGivenAs : Permit → State → ReaderSeen → NextPiece → List ℕ → Type 0
IsGivenAs p s r (piece.Piece index size) into = IsFragment p s r index size into
IsGivenAs p s r _ into = Unit {0}

-- so it is in each step that has the calls of this one
abbrev pub IsGivenInEachStep : (old new : At) → ReaderSeen → NextPiece → List ℕ → Type 0
IsGivenInEachStep old new r answer into = (now : ℕ) (p : Permit) (earlier calls : List Call) → new.device.past ≡ calls ++ old.device.past
    → Encloses now old p earlier calls → IsGivenAs p (state_at old) r answer into

-- the cause for which it breaks is that of the records before, or is no fault but one that was recorded now
abbrev pub IsCountedBreak : (old new : At) → ReaderSeen → NextPiece → Type 0
IsCountedBreak old new r (piece.Broken why) =
    (why ≡ cause_of_piece (state_at old) (next_piece (as_row r))) ⊎ IsCountedCause old new why
IsCountedBreak old new r _ = Unit {0}

-- what came of it: the records, and what it is given
pub record HasRead (old new : At) (r : ReaderSeen) (answer : NextPiece) (into : List ℕ) : Type 0 where
  pub adds : AddsAll (read_adds (state_at old) r answer) old new
  pub given : IsGivenInEachStep old new r answer into
  pub counted : IsCountedBreak old new r answer
  pub read : AreSeen old new

-- or memory was wanting, and nothing is recorded
abbrev pub ReadsNext : (old new : At) → ReaderSeen → Result NextPiece AllocError → List ℕ → Type 0
ReadsNext old new r (Ok answer) into = HasRead old new r answer into
ReadsNext old new r (Err e) into = IsAsItWas old new

-- the fragment that it takes next is live, and by the records its payload is not the one that the reader's table lists, or that
-- the writer has cut
pub record IsOtherNext (s : State) (r : ReaderSeen) : Type 0 where
  pub entry : TableRow
  pub row : Row
  pub found : Digest
  pub cut : next_row s (as_row r) ≡ Some entry
  pub live : live_row_of s (next_piece (as_row r)) ≡ Some row
  pub unlike : IsUnlike row entry found

-- the index that it takes next: one further, where a fragment was given
abbrev pub next_behind : ℕ → NextPiece → ℕ
next_behind index (piece.Piece given length) = index + 1
next_behind index _ = index

-- a reader behind what it was given, and else as it was
pub record IsBehindAnswer (old : ReaderSeen) (answer : NextPiece) (new : ReaderSeen) : Type 0 where
  pub reader : new.reader ≡ old.reader
  pub key : new.key ≡ old.key
  pub put : new.put ≡ old.put
  pub table : new.table ≡ old.table
  pub next : new.next ≡ next_behind old.next answer

abbrev pub GoesOnReading : (old : ReaderSeen) → Result NextPiece AllocError → (new : ReaderSeen) → Type 0
GoesOnReading old (Ok answer) new = IsBehindAnswer old answer new
GoesOnReading old (Err e) new = new ≡ old

-- it is the reader of the records, gone on so; it has their fragments where it had them
pub record ReaderGoesOn (old : ReaderSeen) (result : Result NextPiece AllocError) (s t : State) (new : ReaderSeen) : Type 0 where
  pub goes : GoesOnReading old result new
  pub reader : IsOpenReader t new
  pub keeps : IsReaderOf s old → IsReaderOf t new

-- ---- a reader is closed

-- its record; or memory was wanting, nothing is recorded, and the reader is given back
abbrev pub ClosesReader : {R : Type 0} → (R → ReaderSeen) → (old new : At) → R → Result (Unit {0}) (AllocError × R) → Type 0
ClosesReader seen old new reader (Ok u) = AddsAll (rec.ReadClosed (seen reader).reader ∷ []) old new
ClosesReader seen old new reader (Err e) = IsAsItWas old new × (e.1 ≡ reader)
