-- The turns of workers: what each took and answered, and its line.
use Rattle.std.specs.Prelude.{ℕ, ◌+◌, ◌==◌, if◌then◌else◌, List, [], ◌∷◌, ◌++◌, codes, ⊤}
use Rattle.std.specs.Fmt.{decimal}
use Rattle.script_grammar.specs.declared.step.Step.{Step}
use Rattle.script_grammar.specs.declared.answer.StepAnswer.{StepAnswer}
use Rattle.script_grammar.specs.Texts.{answer_line}
use Rattle.cache_replay.specs.declared.stop.Stop.{Stop}
use Rattle.shared_steps.specs.declared.shared.StepRow.{StepRow}
use Rattle.shared_steps.specs.declared.shared.Taken.TheVariants.{Said, Stopped, Left}
use Rattle.shared_steps.specs.declared.shared.Taken.{Taken}
use Rattle.shared_session.specs.declared.step.JobStep.{JobStep}

-- a turn: whose it was, from 1, the number of its job, the step that it took and what was said
pub record WorkTurn : Type 0 where
  pub worker : ℕ
  pub job : ℕ
  pub step : Step
  pub said : StepAnswer

-- the turns of rows that were answered
abbrev pub turn_in : (worker job : ℕ) → Step → Taken StepAnswer Stop → List WorkTurn → List WorkTurn
turn_in worker job step (Said said) turns = record { worker = worker + 1; job = job; step = step; said = said } ∷ turns
turn_in worker job step (Stopped why) turns = turns
turn_in worker job step Left turns = turns

abbrev pub turns_in : List (StepRow JobStep StepAnswer Stop) → List WorkTurn
turns_in [] = []
turns_in (r ∷ rows) = turn_in r.worker r.job r.step.value.step r.taken (turns_in rows)

-- the jobs of a worker among turns, in their order
abbrev pub jobs_under : ℕ → List WorkTurn → List (ℕ × Step)
jobs_under worker [] = []
jobs_under worker (t ∷ turns) = if t.worker == worker then (t.job, t.step) ∷ jobs_under worker turns else jobs_under worker turns

-- turn T worker W job J
unfoldable pub turn_head : (number worker job : ℕ) → List ℕ
turn_head number worker job =
    codes "turn " ++ (decimal number ++ (codes " worker " ++ (decimal worker ++ (codes " job " ++ (decimal job ++ codes " ")))))

-- the line of a turn, whose answer stands behind its head
abbrev pub turn_text : ℕ → WorkTurn → List ℕ
turn_text number t = turn_head number t.worker t.job ++ answer_line t.said

-- the lines of turns, by their numbers from n on
abbrev pub turn_texts : ℕ → List WorkTurn → List ℕ
turn_texts n [] = []
turn_texts n (t ∷ turns) = turn_text n t ++ turn_texts (n + 1) turns

-- each row was answered
abbrev pub IsSaid : Taken StepAnswer Stop → Type 0
IsSaid (Said said) = ⊤
IsSaid (Stopped why) = ⊥
IsSaid Left = ⊥

abbrev pub AreSaid : List (StepRow JobStep StepAnswer Stop) → Type 0
AreSaid [] = ⊤
AreSaid (r ∷ rows) = IsSaid r.taken × AreSaid rows
