-- Complete reads by `next`: what an actor was answered whose reader comes to the end.
use Rattle.std.specs.Prelude.{◌≡◌, ◌⊎◌, ◌+◌, ℕ, List, ◌∷◌, ◌++◌, drop, length, Some}
use Rattle.tape_base.specs.declared.keys.Key.{Key}
use Rattle.alternate_vector.specs.Field.{Field}
use Rattle.cache_model.specs.State.{State, ReaderRow, after_all, reader_of}
use Rattle.script_grammar.specs.declared.step.Step.TheVariants as step
use Rattle.script_grammar.specs.declared.answer.StepAnswer.TheVariants as answer
use Rattle.script_run.specs.Run.{fresh}
use Rattle.script_run.specs.Takes.{run_after}
use Rattle.line_laws.specs.Actors.{pieces_told}
use Rattle.line_laws.specs.Along.{AreOfSession}
use Rattle.line_laws.specs.Laws.{WasPutFor}
use Rattle.headline.specs.Account.{Account, HistoryTells, RunLogs}
use Rattle.headline.specs.Reads.{DidBefore, ReadsOnBehind}
use Rattle.headline.specs.Standing.{ClosesPut, HasRecorded}

module _ {l : RunLogs} where
  -- the line behind these opened the reader of this number, which reads the put, for the actor of this name: it was answered
  -- that it hit the put, or follows it, which an earlier line of the session opened under the asked key, with lines that fit
  -- the request
  pub record HasOpened (a : Account l) (lines : List (List ℕ)) (name : List ℕ) (number put : ℕ) : Type 0 where
    pub key : Key
    pub request : List Field
    pub said : ((size : ℕ) × HistoryTells a lines (step.OpenRead name key request) (answer.Hit put size)) ⊎ HistoryTells a lines (step.OpenRead name key request) (answer.Follow put)
    pub did : DidBefore a.turns lines
    pub put_for : WasPutFor lines did.earlier key request put
    pub s : State
    pub state : (run_after fresh lines did.earlier).state ≡ Some s
    pub number_is : s.next_reader ≡ number
    pub reader : ReaderRow
    pub opens : reader_of (after_all s did.turn.added) number ≡ Some reader
    pub put_is : reader.put ≡ put

  -- an earlier line of the session opened the reader that the actor has at the line, and one recorded that its put was
  -- completed; the pieces that the lines of the actor were answered since it was opened are, joined, all that the writer of
  -- the put took, and so many bytes
  pub record IsReadToEnd (a : Account l) (lines : List (List ℕ)) (name : List ℕ) (size : ℕ) : Type 0 where
    pub at : ReadsOnBehind a.turns lines name
    pub before : List (List ℕ)
    pub bytes : List ℕ
    pub later : List (List ℕ)
    pub lines_are : lines ≡ before ++ bytes ∷ later
    pub same_session : AreOfSession later
    pub put : ℕ
    pub put_is : at.reader.put ≡ put
    pub opened : HasOpened a before name at.number put
    pub closed : HasRecorded (ClosesPut put) lines at.did.earlier
    pub pieces : pieces_told name later (drop (length before + 1) a.answers) ≡ ((run_after fresh lines at.did.earlier).streams put).bytes
    pub sized : size ≡ length ((run_after fresh lines at.did.earlier).streams put).bytes

-- each line answered `end` ends such a reader
abbrev pub EndIsRead : Type 0
EndIsRead = (l : RunLogs) (a : Account l) (lines : List (List ℕ)) (name : List ℕ) (size : ℕ)
    → HistoryTells a lines (step.Next name) (answer.End size) → IsReadToEnd a lines name size
