-- What the writer of a put took, in lines: where a whole `put` was answered its put, the body of its line; in a `data` line as
-- many bytes of its body as were told.
use Rattle.std.specs.Prelude.{◌≡◌, ℕ, List, ◌∷◌, ◌++◌, length, take, Option, Some, None}
use Rattle.tape_base.specs.declared.keys.Key.{Key}
use Rattle.alternate_vector.specs.Field.{Field}
use Rattle.script_grammar.specs.declared.step.Step.TheVariants as step
use Rattle.script_grammar.specs.declared.answer.StepAnswer.{StepAnswer}
use Rattle.script_grammar.specs.declared.answer.StepAnswer.TheVariants as answer
use Rattle.script_run.specs.Run.{fresh, put_written_by}
use Rattle.script_run.specs.Turn.{Turn}
use Rattle.script_run.specs.Behind.{after_line}
use Rattle.script_run.specs.Takes.{run_after}
use Rattle.line_laws.specs.Along.{AreOfSession}
use Rattle.headline.specs.Account.{Account, HistoryTells, RunLogs}
use Rattle.headline.specs.Reads.{DidBefore}

-- behind a `put` line that was answered so, and lines of its session since, the writer of the put took that line's body, and
-- so many bytes were told
abbrev pub PutTookItsBody : Type 0
PutTookItsBody = (l : RunLogs) (a : Account l) (lines since : List (List ℕ)) (key : Key) (body : List ℕ) (request response : List Field)
    (put size fragments : ℕ) → (at : HistoryTells a lines (step.Put key body request response) (answer.Put put size fragments))
    → AreOfSession since → (did : DidBefore a.turns (lines ++ at.bytes ∷ since))
    → (((run_after fresh (lines ++ at.bytes ∷ since) did.earlier).streams put).bytes ≡ body) × (size ≡ length body)

-- so what a later line of the session got of that put is the body of the `put` line, and as many bytes were told of both
abbrev pub GotIsTheBody : Type 0
GotIsTheBody = (l : RunLogs) (a : Account l) (lines since : List (List ℕ)) (key asked : Key) (body bytes : List ℕ)
    (request response wanted : List Field) (put size fragments got : ℕ)
    → (at : HistoryTells a lines (step.Put key body request response) (answer.Put put size fragments)) → AreOfSession since
    → HistoryTells a (lines ++ at.bytes ∷ since) (step.Get asked wanted) (answer.Got put got bytes) → (bytes ≡ body) × (got ≡ size)

-- behind a `close` line that was answered so, and lines of its session since, what the writer of the put took is what it had
-- taken before that line, and so many bytes were told
abbrev pub ClosedPutStays : Type 0
ClosedPutStays = (l : RunLogs) (a : Account l) (lines since : List (List ℕ)) (name : List ℕ) (put size fragments : ℕ)
    → (at : HistoryTells a lines (step.Close name) (answer.Put put size fragments)) → AreOfSession since
    → (before : DidBefore a.turns lines) → (did : DidBefore a.turns (lines ++ at.bytes ∷ since))
    → (((run_after fresh (lines ++ at.bytes ∷ since) did.earlier).streams put).bytes
    ≡ ((run_after fresh lines before.earlier).streams put).bytes)
    × (size ≡ length ((run_after fresh lines before.earlier).streams put).bytes)

-- how many bytes of a line an answer tells that were taken: all, or those before a refusal or a fault
abbrev pub taken_told : StepAnswer → Option ℕ
taken_told (answer.Took count) = Some count
taken_told (answer.Refused why took) = took
taken_told (answer.DeviceFault count took) = took
taken_told _ = None

-- the actor writes a put, and in the line behind these its writer took so many bytes of the body, behind what it had taken
pub record TookOfBody (turns : List Turn) (lines : List (List ℕ)) (bytes name body : List ℕ) (count : ℕ) : Type 0 where
  pub did : DidBefore turns lines
  pub put : ℕ
  pub writes : put_written_by (run_after fresh lines did.earlier) name ≡ Some put
  pub taken : ((after_line (run_after fresh lines did.earlier) did.turn bytes).streams put).bytes
      ≡ ((run_after fresh lines did.earlier).streams put).bytes ++ take count body

-- each `data` line that was answered so took so many bytes, and with `took` all of them
abbrev pub DataTookItsBytes : Type 0
DataTookItsBytes = (l : RunLogs) (a : Account l) (lines : List (List ℕ)) (name body : List ℕ) (said : StepAnswer) (count : ℕ)
    → (at : HistoryTells a lines (step.Feed name body) said) → taken_told said ≡ Some count
    → TookOfBody a.turns lines at.bytes name body count × (said ≡ answer.Took count → count ≡ length body)
