-- Causes of breaks, in lines, that are how a piece or a put stands: what `next` is answered.
use Rattle.std.specs.Prelude.{◌≡◌, ◌+◌, ◌<◌, ◌≤◌, ℕ, Bool, List, length, Some, None}
use Rattle.tape_base.specs.declared.keys.Key.{Key}
use Rattle.tape_base.specs.declared.pieces.PieceId.{PieceId}
use Rattle.alternate_vector.specs.Field.{Field}
use Rattle.cache_model.specs.declared.cause.Cause.TheVariants as cause
use Rattle.cache_model.specs.declared.record.Rec.{Rec}
use Rattle.cache_model.specs.declared.record.Rec.TheVariants as rec
use Rattle.cache_model.specs.State.{State}
use Rattle.cache_model.specs.Verdict.{cuts_of, next_piece}
use Rattle.script_grammar.specs.declared.step.Step.TheVariants as step
use Rattle.script_grammar.specs.declared.answer.StepAnswer.TheVariants as answer
use Rattle.script_run.specs.Run.{fresh}
use Rattle.script_run.specs.Turn.{Turn}
use Rattle.script_run.specs.Takes.{run_after}
use Rattle.headline.specs.Account.{Account, HistoryTells, RunLogs}
use Rattle.headline.specs.Answered.{WasGivenUpSo}
use Rattle.headline.specs.Reads.{AreLiveBefore, DidBefore, IsChosenPut, ReadsOnBehind}
use Rattle.headline.specs.Standing.{HasRecorded, IsBelowFloor}

-- the piece that the reader is to be given next is passed so
pub record BrokePassed (turns : List Turn) (lines : List (List ℕ)) (name : List ℕ) (place floor : ℕ) (unsaved : Bool) : Type 0 where
  pub at : ReadsOnBehind turns lines name
  pub passed : IsBelowFloor lines at.did.earlier at.s (next_piece at.reader) place floor unsaved

-- so it is where a line that reads on is answered passed
abbrev pub BreakWasPassed : Type 0
BreakWasPassed = (l : RunLogs) (a : Account l) (lines : List (List ℕ)) (name : List ℕ) (place floor : ℕ) (unsaved : Bool)
    → HistoryTells a lines (step.Next name) (answer.Broken (cause.Passed place floor unsaved)) → BrokePassed a.turns lines name place floor unsaved

-- this put was given up
abbrev pub GivesUpPut : ℕ → Rec → Type 0
GivesUpPut number (rec.Aborted put key) = put ≡ number
GivesUpPut number _ = ⊥

-- the reader follows this put, and was given all that was cut of it; an earlier line of the session recorded that it was
-- given up, and was answered so
pub record BrokeAborted {l : RunLogs} (a : Account l) (lines : List (List ℕ)) (name : List ℕ) (put : ℕ) : Type 0 where
  pub at : ReadsOnBehind a.turns lines name
  pub put_is : at.reader.put ≡ put
  pub follows : at.reader.table ≡ None
  pub given : at.reader.next ≡ length (cuts_of at.s put) + 1
  pub aborted : HasRecorded (GivesUpPut put) lines at.did.earlier
  pub key : Key
  pub answered : WasGivenUpSo a aborted.before (run_after fresh aborted.before aborted.earlier) key put

-- so it is where a line that reads on is answered aborted
abbrev pub BreakWasAborted : Type 0
BreakWasAborted = (l : RunLogs) (a : Account l) (lines : List (List ℕ)) (name : List ℕ) (put : ℕ)
    → HistoryTells a lines (step.Next name) (answer.Broken (cause.Aborted put)) → BrokeAborted a lines name put

-- in the state before the line a fragment is passed so of those that the alternate lists which is hit, and all before it
-- may be read
pub record GetPassed (turns : List Turn) (lines : List (List ℕ)) (key : Key) (request : List Field) (place floor : ℕ) (unsaved : Bool) : Type 0 where
  pub did : DidBefore turns lines
  pub s : State
  pub state : (run_after fresh lines did.earlier).state ≡ Some s
  pub piece : PieceId
  pub key_is : piece.first ≡ key
  pub chosen : IsChosenPut (run_after fresh lines did.earlier) key request piece.put
  pub listed : (0 < piece.index) × (piece.index ≤ length chosen.alternate.table)
  pub live : AreLiveBefore s key piece.put piece.index
  pub passed : IsBelowFloor lines did.earlier s piece place floor unsaved

-- so it is where a whole read is answered passed
abbrev pub GetWasPassed : Type 0
GetWasPassed = (l : RunLogs) (a : Account l) (lines : List (List ℕ)) (key : Key) (request : List Field) (place floor : ℕ) (unsaved : Bool)
    → HistoryTells a lines (step.Get key request) (answer.Broken (cause.Passed place floor unsaved)) → GetPassed a.turns lines key request place floor unsaved
