-- What turns make of a run: they are steps of one script, in their order.
use Rattle.std.specs.Prelude.{◌≡◌, ℕ, ◌≤◌, ◌⊎◌, List, [], ◌∷◌, ⊤}
use Rattle.script_run.specs.Run.{Run}
use Rattle.script_run.specs.Turn.{Turn}
use Rattle.script_run.specs.Answers.{step_answer}
use Rattle.script_run.specs.Behind.{after_step, with_calls_of}
use Rattle.script_run.specs.Takes.{StepShows, StepTakes}
use Rattle.run_promise.specs.Outline.{IsAnswered, Outline, doubted, outline_after, outline_in}
use Rattle.run_promise.specs.Story.{DevicesTold, told_by, told_by_records}
use Rattle.job_lines.specs.Lanes.{numbered, steps_for}
use Rattle.work_script.specs.Turns.{WorkTurn, jobs_under}

-- From an outline on each step is answered where it can be, and this is what the outline behind them tells of devices.
abbrev pub AnswersOn : Outline → List WorkTurn → (DevicesTold → Type 0) → Type 0
AnswersOn o [] Devices = Devices (told_by o)
AnswersOn o (t ∷ turns) Devices = IsAnswered o t.step t.said × AnswersOn (outline_after o t.step t.said) turns Devices

-- From a run on each step did what it must, what was said is its answer, and this is what the run behind them tells of devices.
-- Or so up to a step that shows two documents of one SHA-256; from there on the outline goes on, its device doubted.
abbrev pub RunsOn : Run → List WorkTurn → (DevicesTold → Type 0) → Type 0
RunsOn run [] Devices = Devices (told_by_records run)
RunsOn run (t ∷ turns) Devices =
    ((turn : Turn) × StepTakes run turn t.step × (step_answer run turn t.step ≡ t.said) × RunsOn (after_step run turn t.step) turns Devices)
    ⊎ ((turn : Turn) × StepShows run turn run.state t.step × AnswersOn (doubted (outline_in (with_calls_of run turn))) (t ∷ turns) Devices)

-- each turn is that of one of so many workers
abbrev pub AreWorkers : ℕ → List WorkTurn → Type 0
AreWorkers workers [] = ⊤
AreWorkers workers (t ∷ turns) = (1 ≤ t.worker) × (t.worker ≤ workers) × AreWorkers workers turns

-- The turns are the jobs that the lines ask for, each worker's in its order, each once, and no others.
pub record AreJobsOf (workers : ℕ) (lines : List (List ℕ)) (turns : List WorkTurn) : Type 0 where
  pub each : (worker : ℕ) → 1 ≤ worker → worker ≤ workers → jobs_under worker turns ≡ numbered 1 (steps_for workers worker lines)
  pub no_others : AreWorkers workers turns
