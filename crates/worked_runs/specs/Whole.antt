-- What the laws of `headline` say of the run of the nine lines as a whole: that it has an account, what ended it, what no line
-- told, that its device was steady, and how far each other run over such lines agrees with it.
use Rattle.std.specs.Prelude.{◌≡◌, ◌⊎◌, ℕ, false, List, ◌∷◌, ◌++◌, length, take, []}
use Rattle.device_log.specs.Streams.{taken_by}
use Rattle.cache_model.specs.Permit.{IsAmong}
use Rattle.script_grammar.specs.declared.step.Step.{Step}
use Rattle.script_grammar.specs.declared.answer.StepAnswer.{StepAnswer}
use Rattle.device_log.specs.Calls.{Call}
use Rattle.script_run.specs.Run.{fresh}
use Rattle.script_run.specs.Turn.{Turn}
use Rattle.script_run.specs.Takes.{output_of}
use Rattle.script_laws.specs.Parting.{MeetsDeviceTrouble}
use Rattle.script_laws.specs.Runs.{answers_damage, answers_fault}
use Rattle.run_promise.specs.declared.status.Status.TheVariants as status
use Rattle.run_promise.specs.Outline.{count_in}
use Rattle.headline.specs.Account.{Account, AllTell, HistoryTells, IsConcluded, RunAnswers, RunLogs}
use Rattle.headline.specs.Endings.{EndsFirst, IsAccountOf}
use Rattle.headline.specs.Fixed.{AreSteady, GiveSame}
use Rattle.headline.specs.Parting.{HistoryBegins, RunsPart}
use Rattle.worked_runs.specs.History.{script_output}
use Rattle.worked_runs.specs.Script.{script_lines, script_turns}
use Rattle.worked_runs.specs.Told.{TellsScript, script_logs}

-- ---- its account and its end

-- the account that is concluded has all nine lines: their answers went out, and the one device came back
abbrev pub TheRunIsTold : Type 0
TheRunIsTold = (a : Account script_logs) × (a.lines ≡ script_lines) × IsAccountOf script_logs status.Done a

-- none of the nine lines had a cause to end the run, and behind them the source came to its end
abbrev pub TheRunEnds : Type 0
TheRunEnds = (e : EndsFirst script_logs status.Done) × (e.lines ≡ script_lines)

-- ---- what no line told, of those behind the format

-- none answers a count of faults
abbrev pub NoCountIsTold : Type 0
NoCountIsTold = (a : Account script_logs) → TellsScript a → (first : List ℕ) (lines : List (List ℕ)) (asks : Step) (said : StepAnswer)
    → RunAnswers a (first ∷ lines) asks said → count_in said ≡ 0

-- none answers a device fault, or names one as a cause
abbrev pub NoFaultIsTold : Type 0
NoFaultIsTold = (a : Account script_logs) → TellsScript a → (first : List ℕ) (lines : List (List ℕ)) (asks : Step) (said : StepAnswer)
    → HistoryTells a (first ∷ lines) asks said → answers_fault said ≡ false

-- none answers damage
abbrev pub NoDamageIsTold : Type 0
NoDamageIsTold = (a : Account script_logs) → TellsScript a → (first : List ℕ) (lines : List (List ℕ)) (asks : Step) (said : StepAnswer)
    → HistoryTells a (first ∷ lines) asks said → answers_damage said ≡ false

-- ---- its device

-- the device has a switch: that such devices told their content and refused nothing gives the premises of the laws on these
abbrev pub TheRunIsSteady : Type 0
TheRunIsSteady = AreSteady script_logs × AllTell script_logs

-- ---- other runs

-- the first lines of a legal history, which are some of the nine, printed the same as here, or a line of them met a refused call
-- or damage, or told a switch something
pub record PrintsAsScript {m : RunLogs} (b : Account m) (lines : List (List ℕ)) : Type 0 where
  pub begins : HistoryBegins b lines
  pub prints : (output_of fresh lines begins.earlier ≡ output_of fresh lines (take (length lines) script_turns))
      ⊎ ((turn : Turn) × IsAmong turn begins.earlier × (MeetsDeviceTrouble turn ⊎ ((call : Call) × (turn.told ≡ call ∷ []))))

-- so it is of each history of whatever run that begins with some of these lines, since no turn here displaced a piece
abbrev pub EachHistoryPrintsIt : Type 0
EachHistoryPrintsIt = (a : Account script_logs) → TellsScript a → (m : RunLogs) (b : Account m) (lines left more : List (List ℕ))
    → script_lines ≡ lines ++ left → b.told ≡ lines ++ more → PrintsAsScript b lines

-- each run that was read to its end, over a source that gave that text and devices that told their content, printed the same; or
-- the two part at a line in which a device refused a call, or both displaced a piece
abbrev pub EachRunAgrees : Type 0
EachRunAgrees = (m : RunLogs) → IsConcluded m status.Done → (same : GiveSame script_logs m) → AllTell m
    → (taken_by m.new ≡ taken_by m.old ++ script_output) ⊎ RunsPart script_logs m same
