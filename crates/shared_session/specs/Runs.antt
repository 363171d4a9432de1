-- The steps of workers beside a run of a script.
use Rattle.std.specs.Prelude.{◌≡◌, ◌⊎◌, List, [], ◌∷◌, None, ⊤}
use Rattle.cache_calls.specs.declared.calls.Calls.{Ghosts as CallsGhosts}
use Rattle.script_grammar.specs.declared.answer.StepAnswer.{StepAnswer}
use Rattle.script_run.specs.Run.{Run}
use Rattle.script_run.specs.Turn.{Turn}
use Rattle.script_run.specs.Answers.{step_answer}
use Rattle.script_run.specs.Behind.{after_step}
use Rattle.script_run.specs.Takes.{StepShows, StepTakes}
use Rattle.cache_replay.specs.declared.stop.Stop.{Stop}
use Rattle.cache_replay.specs.declared.stop.Stop.TheVariants as stop
use Rattle.cache_replay.specs.Plays.{Plays}
use Rattle.shared_steps.specs.declared.shared.Taken.TheVariants.{Said, Stopped, Left}
use Rattle.shared_steps.specs.declared.shared.StepRecord.{StepRecord}
use Rattle.shared_steps.specs.declared.shared.StepRecord.TheVariants.{Began, Took}
use Rattle.shared_session.specs.declared.session.SharedSession.{SharedSession}
use Rattle.shared_session.specs.declared.step.JobStep.{JobStep}

-- why a step stops the run: there is no cache, or memory was wanting
abbrev pub StopsAt : Run → Stop → Type 0
StopsAt run stop.NoCache = run.state ≡ None
StopsAt run stop.BayFault = ⊥
StopsAt run stop.Memory = ⊤

module _ {S V R : Type 0} {c : CallsGhosts S V R} where
  -- From a run on, each step did what it must in its turn, what was said is its answer, and the session is that of the run
  -- behind them. Or so up to a step that stopped the run, or that shows two documents of one SHA-256.
  abbrev pub RunsOn : Run → List (StepRecord (SharedSession S V R c) JobStep StepAnswer Stop) → SharedSession S V R c → Type 0
  RunsOn run [] new = Plays run new.session
  RunsOn run (Took job (Said said) ∷ rs) new =
      ((turn : Turn) × StepTakes run turn job.step × (step_answer run turn job.step ≡ said) × RunsOn (after_step run turn job.step) rs new)
      ⊎ ((turn : Turn) × StepShows run turn run.state job.step)
  RunsOn run (Took job (Stopped why) ∷ rs) new = StopsAt run why
  RunsOn run (Took job Left ∷ rs) new = ⊥
  RunsOn run (Began s ∷ rs) new = ⊥
