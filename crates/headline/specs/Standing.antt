-- How keys stand, in lines: what is found, and why a miss is removed, no-match, aborted or passed.
use Rattle.std.specs.Prelude.{◌≡◌, ◌<◌, ℕ, Bool, true, false, List, ◌∷◌, ◌++◌, length, Some}
use Rattle.tape_base.specs.declared.keys.Key.{Key}
use Rattle.tape_base.specs.declared.pieces.PieceId.{PieceId}
use Rattle.alternate_vector.specs.Field.{Field}
use Rattle.alternate_vector.specs.Alternates.{Stored, is_match}
use Rattle.cache_model.specs.declared.cause.Cause.TheVariants as cause
use Rattle.cache_model.specs.declared.record.Rec.{Rec}
use Rattle.cache_model.specs.declared.record.Rec.TheVariants as rec
use Rattle.cache_model.specs.State.{State, Row, alternates_of, floor_now, live_row_of, row_of, vector_piece}
use Rattle.cache_model.specs.Verdict.{is_unsaved}
use Rattle.cache_model.specs.Permit.{IsAmong}
use Rattle.step_laws.specs.VectorLaws.{IsUnanswered}
use Rattle.script_grammar.specs.declared.step.Step.{Step}
use Rattle.script_grammar.specs.declared.step.Step.TheVariants as step
use Rattle.script_grammar.specs.declared.answer.StepAnswer.{StepAnswer}
use Rattle.script_grammar.specs.declared.answer.StepAnswer.TheVariants as answer
use Rattle.script_run.specs.Run.{fresh}
use Rattle.script_run.specs.Turn.{Turn}
use Rattle.script_run.specs.Takes.{IsRun, run_after}
use Rattle.line_laws.specs.Along.{AreOfSession}
use Rattle.headline.specs.Account.{Account, HistoryTells, RunLogs}
use Rattle.headline.specs.Answered.{WasGivenUpSo, WasPut}
use Rattle.headline.specs.Misses.{MissesKey}
use Rattle.headline.specs.Reads.{AsksFor, DidBefore}

-- ---- what lines recorded

-- one of these lines recorded such a thing, and no line since began another session
pub record HasRecorded (Says : Rec → Type 0) (lines : List (List ℕ)) (turns : List Turn) : Type 0 where
  pub before : List (List ℕ)
  pub bytes : List ℕ
  pub later : List (List ℕ)
  pub lines_are : lines ≡ before ++ bytes ∷ later
  pub earlier : List Turn
  pub turn : Turn
  pub rest : List Turn
  pub turns_are : turns ≡ earlier ++ turn ∷ rest
  pub legal : IsRun fresh before earlier
  pub told : Rec
  pub among : IsAmong told turn.added
  pub tells : Says told
  pub same_session : AreOfSession later

-- none of these records is such
abbrev pub NoneAmong : (Rec → Type 0) → List Rec → Type 0
NoneAmong Says recs = (told : Rec) → IsAmong told recs → Says told → ⊥

-- nor is one of these turns
abbrev pub RecordedNone : (Rec → Type 0) → List Turn → Type 0
RecordedNone Says turns = (turn : Turn) → IsAmong turn turns → NoneAmong Says turn.added

-- one of these lines recorded such a thing, and no record since undoes it: none behind it in that line, and none of a later
-- line
pub record HasRecordedLast (Says Undoes : Rec → Type 0) (lines : List (List ℕ)) (turns : List Turn) : Type 0 where
  pub is : HasRecorded Says lines turns
  pub front : List Rec
  pub back : List Rec
  pub added_are : is.turn.added ≡ front ++ is.told ∷ back
  pub none_behind : NoneAmong Undoes back
  pub none_later : RecordedNone Undoes is.rest

-- a put of the key was completed
abbrev pub Completes : Key → Rec → Type 0
Completes key (rec.Committed put k bytes alternates) = k ≡ key
Completes key _ = ⊥

-- it was this put
abbrev pub CompletesPut : Key → ℕ → Rec → Type 0
CompletesPut key number (rec.Committed put k bytes alternates) = (put ≡ number) × (k ≡ key)
CompletesPut key number _ = ⊥

-- this put was completed, under whatever key
abbrev pub ClosesPut : ℕ → Rec → Type 0
ClosesPut number (rec.Committed put key bytes alternates) = put ≡ number
ClosesPut number _ = ⊥

-- a put of the key was completed, or removed
abbrev pub ChangesVector : Key → Rec → Type 0
ChangesVector key (rec.Committed put k bytes alternates) = k ≡ key
ChangesVector key (rec.Removed put k) = k ≡ key
ChangesVector key _ = ⊥

-- a put of the key was given up
abbrev pub GivesUpKey : Key → Rec → Type 0
GivesUpKey key (rec.Aborted put k) = k ≡ key
GivesUpKey key _ = ⊥

-- ---- what is found

-- a `get`, or a line that opens a reader, is answered with this put
pub data FindsPut (key : Key) (request : List Field) (put : ℕ) : Step → StepAnswer → Type 0 where
  gets : (size : ℕ) (bytes : List ℕ) → FindsPut key request put (step.Get key request) (answer.Got put size bytes)
  opens : (name : List ℕ) (size : ℕ) → FindsPut key request put (step.OpenRead name key request) (answer.Hit put size)

-- the key's vector is live, and lists the put with lines that fit the request. The vector is that of a put which an earlier
-- line of the session completed, and no record since is of one of the key that was completed or removed; an earlier line
-- completed the put too. Each of these lines was answered so
pub record IsListedPut {l : RunLogs} (a : Account l) (lines : List (List ℕ)) (key : Key) (request : List Field) (put : ℕ) : Type 0 where
  pub did : DidBefore a.turns lines
  pub vector : ℕ
  pub completed : HasRecordedLast (CompletesPut key vector) (ChangesVector key) lines did.earlier
  pub s : State
  pub state : (run_after fresh lines did.earlier).state ≡ Some s
  pub row : Row
  pub live : live_row_of s (vector_piece key vector) ≡ Some row
  pub alternate : Stored
  pub lists : IsAmong alternate (alternates_of s key)
  pub put_is : alternate.put ≡ put
  pub fits : is_match request alternate ≡ true
  pub closed : HasRecorded (ClosesPut put) lines did.earlier
  pub vector_answered : WasPut a completed.is.before (run_after fresh completed.is.before completed.is.earlier) key vector
  pub closed_key : Key
  pub closed_answered : WasPut a closed.before (run_after fresh closed.before closed.earlier) closed_key put

-- so it is of each put that is found
abbrev pub FoundIsListed : Type 0
FoundIsListed = (l : RunLogs) (a : Account l) (lines : List (List ℕ)) (asks : Step) (said : StepAnswer) (key : Key) (request : List Field) (put : ℕ)
    → FindsPut key request put asks said → HistoryTells a lines asks said → IsListedPut a lines key request put

-- ---- removed

-- an earlier line of the session recorded that a put of the key was removed, which it asked for and was answered; and no
-- record since is of one that was completed
pub record WasRemoved {l : RunLogs} (a : Account l) (lines : List (List ℕ)) (key : Key) : Type 0 where
  pub did : DidBefore a.turns lines
  pub put : ℕ
  pub removed : HasRecordedLast (λ told. told ≡ rec.Removed put key) (Completes key) lines did.earlier
  pub answered : HistoryTells a removed.is.before (step.Remove key) (answer.Removed put)

-- so it is where a line is answered removed
abbrev pub RemovedWasRecorded : Type 0
RemovedWasRecorded = (l : RunLogs) (a : Account l) (lines : List (List ℕ)) (asks : Step) (said : StepAnswer) (key : Key)
    → MissesKey key cause.Removed asks said → HistoryTells a lines asks said → WasRemoved a lines key

-- ---- no match

-- the key's vector is live, and lists so many alternates, none of which fits the request; nor does an open writer. Its put
-- was completed by an earlier line of the session, which was answered so, and no record since is of one of the key that was
-- completed or removed
pub record FitsNone {l : RunLogs} (a : Account l) (lines : List (List ℕ)) (key : Key) (request : List Field) (count : ℕ) : Type 0 where
  pub did : DidBefore a.turns lines
  pub s : State
  pub state : (run_after fresh lines did.earlier).state ≡ Some s
  pub unanswered : IsUnanswered s key request
  pub completed : HasRecordedLast (CompletesPut key unanswered.put) (ChangesVector key) lines did.earlier
  pub answered : WasPut a completed.is.before (run_after fresh completed.is.before completed.is.earlier) key unanswered.put
  pub counted : length (alternates_of s key) ≡ count
  pub none : (alternate : Stored) → IsAmong alternate (alternates_of s key) → is_match request alternate ≡ false

-- so it is where a line is answered no-match; it is one that looks for a request, and no removal
abbrev pub NoMatchFitsNone : Type 0
NoMatchFitsNone = (l : RunLogs) (a : Account l) (lines : List (List ℕ)) (asks : Step) (said : StepAnswer) (key : Key) (count : ℕ)
    → MissesKey key (cause.NoMatch count) asks said → HistoryTells a lines asks said
    → (request : List Field) × AsksFor key request asks × FitsNone a lines key request count

-- ---- aborted

-- an earlier line of the session recorded that the put was given up, and was answered so; no record since is of another one
-- of the key that was, and no line of the session recorded that one was completed or removed
pub record WasGivenUp {l : RunLogs} (a : Account l) (lines : List (List ℕ)) (key : Key) (put : ℕ) : Type 0 where
  pub did : DidBefore a.turns lines
  pub aborted : HasRecordedLast (λ told. told ≡ rec.Aborted put key) (GivesUpKey key) lines did.earlier
  pub answered : WasGivenUpSo a aborted.is.before (run_after fresh aborted.is.before aborted.is.earlier) key put
  pub none : HasRecorded (ChangesVector key) lines did.earlier → ⊥

-- so it is where a line is answered aborted, of a key
abbrev pub AbortedWasLast : Type 0
AbortedWasLast = (l : RunLogs) (a : Account l) (lines : List (List ℕ)) (asks : Step) (said : StepAnswer) (key : Key) (put : ℕ)
    → MissesKey key (cause.Aborted put) asks said → HistoryTells a lines asks said → WasGivenUp a lines key put

-- ---- passed

-- the piece was placed there, or copied
abbrev pub BringsTo : PieceId → ℕ → Rec → Type 0
BringsTo id there (rec.Placed piece place blocks digest pin) = (piece ≡ id) × (place ≡ there)
BringsTo id there (rec.Moved piece from place digest) = (piece ≡ id) × (place ≡ there)
BringsTo id there _ = ⊥

-- the piece was placed, copied, or lost
abbrev pub Shifts : PieceId → Rec → Type 0
Shifts id (rec.Placed piece place blocks digest pin) = piece ≡ id
Shifts id (rec.Moved piece from place digest) = piece ≡ id
Shifts id (rec.Displaced piece segment live) = piece ≡ id
Shifts id (rec.Damaged piece place kept found) = piece ≡ id
Shifts id _ = ⊥

-- a piece that was to be copied from there stays
abbrev pub LeavesAt : ℕ → Rec → Type 0
LeavesAt there (rec.Unsaved piece place fault) = place ≡ there
LeavesAt there _ = ⊥

-- an earlier line of the session placed or copied the piece to this place, last; the floor in this state is this one, which
-- is above it. Where the piece is unsaved an earlier line recorded that one at the place was
pub record IsBelowFloor (lines : List (List ℕ)) (turns : List Turn) (s : State) (piece : PieceId) (place floor : ℕ) (unsaved : Bool) : Type 0 where
  pub brought : HasRecordedLast (BringsTo piece place) (Shifts piece) lines turns
  pub row : Row
  pub stands : row_of s piece ≡ Some row
  pub place_is : row.place ≡ place
  pub floor_is : floor_now s ≡ floor
  pub below : place < floor
  pub unsaved_is : is_unsaved s place ≡ unsaved
  pub left : unsaved ≡ true → HasRecorded (LeavesAt place) lines turns

-- so it is of the vector of the key's last put, which an earlier line of the session completed, and was answered so
pub record WasPassed {l : RunLogs} (a : Account l) (lines : List (List ℕ)) (key : Key) (place floor : ℕ) (unsaved : Bool) : Type 0 where
  pub did : DidBefore a.turns lines
  pub s : State
  pub state : (run_after fresh lines did.earlier).state ≡ Some s
  pub put : ℕ
  pub completed : HasRecordedLast (CompletesPut key put) (ChangesVector key) lines did.earlier
  pub answered : WasPut a completed.is.before (run_after fresh completed.is.before completed.is.earlier) key put
  pub passed : IsBelowFloor lines did.earlier s (vector_piece key put) place floor unsaved

-- so it is where a line is answered passed, of a key
abbrev pub PassedWasPlaced : Type 0
PassedWasPlaced = (l : RunLogs) (a : Account l) (lines : List (List ℕ)) (asks : Step) (said : StepAnswer) (key : Key) (place floor : ℕ) (unsaved : Bool)
    → MissesKey key (cause.Passed place floor unsaved) asks said → HistoryTells a lines asks said
    → WasPassed a lines key place floor unsaved
