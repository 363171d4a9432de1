-- What a line was answered that recorded how a put ended: that it was completed, given up, or removed; and that a line which
-- was answered so recorded it.
use Rattle.std.specs.Prelude.{◌≡◌, ℕ, List, ◌∷◌, ◌++◌, Some, None}
use Rattle.tape_base.specs.declared.keys.Key.{Key}
use Rattle.alternate_vector.specs.Field.{Field}
use Rattle.alternate_vector.specs.Alternates.{Stored}
use Rattle.cache_model.specs.declared.cause.Cause.{Cause}
use Rattle.cache_model.specs.declared.record.Rec.{Rec}
use Rattle.cache_model.specs.declared.record.Rec.TheVariants as rec
use Rattle.cache_model.specs.State.{State, PutRow, put_of}
use Rattle.cache_model.specs.Permit.{IsAmong}
use Rattle.script_grammar.specs.declared.step.Step.{Step}
use Rattle.script_grammar.specs.declared.step.Step.TheVariants as step
use Rattle.script_grammar.specs.declared.answer.Refused.TheVariants as refused
use Rattle.script_grammar.specs.declared.answer.StepAnswer.{StepAnswer}
use Rattle.script_grammar.specs.declared.answer.StepAnswer.TheVariants as answer
use Rattle.script_run.specs.Run.{Run, fresh, put_written_by}
use Rattle.script_run.specs.Takes.{run_after}
use Rattle.headline.specs.Account.{Account, HistoryTells, RunLogs}
use Rattle.headline.specs.Reads.{DidBefore}

-- the line behind these, one of those that the legal history has, recorded this
pub record RecordsBehind {l : RunLogs} (a : Account l) (lines : List (List ℕ)) (told : Rec) : Type 0 where
  pub bytes : List ℕ
  pub later : List (List ℕ)
  pub lines_are : a.told ≡ lines ++ bytes ∷ later
  pub did : DidBefore a.turns lines
  pub among : IsAmong told did.turn.added

-- ---- completed

-- the actor writes the put, which is one of the key
pub record ActorWrites (run : Run) (name : List ℕ) (key : Key) (put : ℕ) : Type 0 where
  pub writes : put_written_by run name ≡ Some put
  pub s : State
  pub state : run.state ≡ Some s
  pub row : PutRow
  pub found : put_of s put ≡ Some row
  pub key_is : row.key ≡ key

-- the put is the one that is to be opened next
pub record TakesNext (run : Run) (put : ℕ) : Type 0 where
  pub s : State
  pub state : run.state ≡ Some s
  pub next : s.next_put ≡ put

-- a `put` of the key, which takes the next number, or a `close` by the actor that writes the put
pub data AsksToComplete (run : Run) (key : Key) (put : ℕ) : Step → Type 0 where
  puts : (body : List ℕ) (request response : List Field) → TakesNext run put → AsksToComplete run key put (step.Put key body request response)
  closes : (name : List ℕ) → ActorWrites run name key put → AsksToComplete run key put (step.Close name)

-- the line asked for that, and was answered the put, with so many bytes
pub record WasCompleted {l : RunLogs} (a : Account l) (lines : List (List ℕ)) (run : Run) (key : Key) (put size : ℕ) : Type 0 where
  pub asks : Step
  pub completes : AsksToComplete run key put asks
  pub fragments : ℕ
  pub tells : HistoryTells a lines asks (answer.Put put size fragments)

-- so it was, with some number of bytes
abbrev pub WasPut : {l : RunLogs} → Account l → (lines : List (List ℕ)) → Run → Key → (put : ℕ) → Type 0
WasPut a lines run key put = (size : ℕ) × WasCompleted a lines run key put size

-- each line that recorded that a put was completed was answered so
abbrev pub CompletedWasAnswered : Type 0
CompletedWasAnswered = (l : RunLogs) (a : Account l) (lines : List (List ℕ)) (put : ℕ) (key : Key) (size : ℕ) (alternates : List Stored)
    → (r : RecordsBehind a lines (rec.Committed put key size alternates)) → WasCompleted a lines (run_after fresh lines r.did.earlier) key put size

-- ---- removed

-- each line that recorded that a put was removed asked for that, and was answered so
abbrev pub RemovalWasAnswered : Type 0
RemovalWasAnswered = (l : RunLogs) (a : Account l) (lines : List (List ℕ)) (put : ℕ) (key : Key)
    → RecordsBehind a lines (rec.Removed put key) → HistoryTells a lines (step.Remove key) (answer.Removed put)

-- ---- given up

-- the list of alternates is too large, or a fragment of the put is gone
pub data IsUnclosable : StepAnswer → Type 0 where
  large : (bytes : ℕ) → IsUnclosable (answer.Refused (refused.VectorTooLarge bytes) None)
  lost : (index : ℕ) (why : Cause) → IsUnclosable (answer.Refused (refused.Lost index why) None)

-- that, or the bytes are too many, no place is left, or the device refused a call
pub data IsUnstorable : StepAnswer → Type 0 where
  unclosable : (said : StepAnswer) → IsUnclosable said → IsUnstorable said
  fragments : IsUnstorable (answer.Refused refused.TooManyFragments None)
  exhausted : IsUnstorable (answer.Refused refused.Exhausted None)
  faulted : (count : ℕ) → IsUnstorable (answer.DeviceFault count None)

-- the actor that writes the put gives it up, or what it asks cannot be done, or a whole `put` of the key, which takes the next number, cannot
pub data GivesUpSo (run : Run) (key : Key) (put : ℕ) : Step → StepAnswer → Type 0 where
  aborts : (name : List ℕ) → ActorWrites run name key put → GivesUpSo run key put (step.Abort name) (answer.Aborted put)
  feeds : (name body : List ℕ) (took : ℕ) → ActorWrites run name key put
      → GivesUpSo run key put (step.Feed name body) (answer.Refused refused.TooManyFragments (Some took))
  closes : (name : List ℕ) (said : StepAnswer) → ActorWrites run name key put → IsUnclosable said → GivesUpSo run key put (step.Close name) said
  puts : (body : List ℕ) (request response : List Field) (said : StepAnswer) → TakesNext run put → IsUnstorable said
      → GivesUpSo run key put (step.Put key body request response) said

-- the line was answered so
pub record WasGivenUpSo {l : RunLogs} (a : Account l) (lines : List (List ℕ)) (run : Run) (key : Key) (put : ℕ) : Type 0 where
  pub asks : Step
  pub said : StepAnswer
  pub gives : GivesUpSo run key put asks said
  pub tells : HistoryTells a lines asks said

-- each line that recorded that a put was given up was answered so
abbrev pub GivingUpWasAnswered : Type 0
GivingUpWasAnswered = (l : RunLogs) (a : Account l) (lines : List (List ℕ)) (put : ℕ) (key : Key)
    → (r : RecordsBehind a lines (rec.Aborted put key)) → WasGivenUpSo a lines (run_after fresh lines r.did.earlier) key put

-- ---- from answers to records

-- the line recorded that the put of the key was completed, with so many bytes, and asked for that
pub record RecordedPut {l : RunLogs} (a : Account l) (lines : List (List ℕ)) (asks : Step) (put size : ℕ) : Type 0 where
  pub key : Key
  pub alternates : List Stored
  pub records : RecordsBehind a lines (rec.Committed put key size alternates)
  pub completes : AsksToComplete (run_after fresh lines records.did.earlier) key put asks

-- each line that was answered a put, with so many bytes, did
abbrev pub AnsweredPutWasCompleted : Type 0
AnsweredPutWasCompleted = (l : RunLogs) (a : Account l) (lines : List (List ℕ)) (asks : Step) (put size fragments : ℕ)
    → HistoryTells a lines asks (answer.Put put size fragments) → RecordedPut a lines asks put size

-- the line recorded that the put of the key was removed, and asked for that
pub record RecordedRemoval {l : RunLogs} (a : Account l) (lines : List (List ℕ)) (asks : Step) (put : ℕ) : Type 0 where
  pub key : Key
  pub asks_is : asks ≡ step.Remove key
  pub records : RecordsBehind a lines (rec.Removed put key)

-- each line that was answered that a put was removed did
abbrev pub AnsweredRemovalWasRecorded : Type 0
AnsweredRemovalWasRecorded = (l : RunLogs) (a : Account l) (lines : List (List ℕ)) (asks : Step) (put : ℕ)
    → HistoryTells a lines asks (answer.Removed put) → RecordedRemoval a lines asks put

-- the line recorded that the put of the key was given up, and asked for that, by the actor that writes it
pub record RecordedAbort {l : RunLogs} (a : Account l) (lines : List (List ℕ)) (asks : Step) (put : ℕ) : Type 0 where
  pub key : Key
  pub name : List ℕ
  pub asks_is : asks ≡ step.Abort name
  pub records : RecordsBehind a lines (rec.Aborted put key)
  pub writes : ActorWrites (run_after fresh lines records.did.earlier) name key put

-- each line that was answered that a put was given up did
abbrev pub AnsweredAbortWasRecorded : Type 0
AnsweredAbortWasRecorded = (l : RunLogs) (a : Account l) (lines : List (List ℕ)) (asks : Step) (put : ℕ)
    → HistoryTells a lines asks (answer.Aborted put) → RecordedAbort a lines asks put
