-- What the lines behind `split` ask each worker for.
use Rattle.std.specs.Prelude.{◌≡◌, ℕ, ◌+◌, ◌==◌, zero, suc, if◌then◌else◌, List, [], ◌∷◌, ◌++◌, length, map, Option, Some, None, ⊤}
use Rattle.script_grammar.specs.declared.step.Step.{Step}
use Rattle.script_lang.specs.declared.jobs.JobLine.{JobLine}
use Rattle.script_lang.specs.declared.jobs.JobLine.TheVariants as job
use Rattle.script_lang.specs.Jobs.{job_reading}
use Rattle.shared_steps.specs.declared.job.StepJob.{StepJob}
use Rattle.shared_session.specs.declared.step.JobStep.{JobStep}
use Rattle.job_lines.specs.Owned.{own_step}

-- the step that a line asks a worker for, before those of later lines
abbrev pub onto_steps : ℕ → JobLine → List Step → List Step
onto_steps worker (job.Job other step) steps = if other == worker then own_step worker step ∷ steps else steps
onto_steps worker job.Nothing steps = steps
onto_steps worker (job.Bad fault) steps = steps

-- the steps that these lines ask a worker for, of so many workers
abbrev pub steps_for : (workers worker : ℕ) → List (List ℕ) → List Step
steps_for workers worker [] = []
steps_for workers worker (line ∷ lines) = onto_steps worker (job_reading workers line) (steps_for workers worker lines)

-- steps with their numbers, from n on
abbrev pub numbered : ℕ → List Step → List (ℕ × Step)
numbered n [] = []
numbered n (step ∷ steps) = (n, step) ∷ numbered (n + 1) steps

-- the jobs of each worker, as their numbers and steps
abbrev pub Lane : Type 0
Lane = List (ℕ × Step)

abbrev pub lane_of : List (StepJob JobStep) → Lane
lane_of = map (λ j. (j.number, j.step.step))

-- these are the jobs of the workers from this one on
abbrev pub AreLanes : (workers worker : ℕ) → List (List ℕ) → List Lane → Type 0
AreLanes workers worker lines [] = ⊤
AreLanes workers worker lines (lane ∷ lanes) =
    (lane ≡ numbered 1 (steps_for workers worker lines)) × AreLanes workers (suc worker) lines lanes

-- no job at all
abbrev pub AreBlank : List Lane → Type 0
AreBlank [] = ⊤
AreBlank (lane ∷ lanes) = (lane ≡ []) × AreBlank lanes

-- one job more, of the worker at this place
abbrev pub with_job : ℕ → Step → List Lane → List Lane
with_job k step [] = []
with_job zero step (lane ∷ lanes) = (lane ++ (length lane + 1, step) ∷ []) ∷ lanes
with_job (suc k) step (lane ∷ lanes) = lane ∷ with_job k step lanes

-- the line of the first job, behind n lines; a line that is a job, or those behind it
abbrev pub first_with : ℕ → JobLine → Option ℕ → Option ℕ
first_with n (job.Job worker step) later = Some n
first_with n job.Nothing later = later
first_with n (job.Bad fault) later = later

abbrev pub first_job : (workers n : ℕ) → List (List ℕ) → Option ℕ
first_job workers n [] = None
first_job workers n (line ∷ lines) = first_with (n + 1) (job_reading workers line) (first_job workers (n + 1) lines)

-- the first line, or this one where there was none
abbrev pub or_first : Option ℕ → ℕ → Option ℕ
or_first None line = Some line
or_first (Some first) line = Some first

-- a line behind `split` that is in the grammar
abbrev pub IsJobLine : JobLine → Type 0
IsJobLine (job.Bad fault) = ⊥
IsJobLine _ = ⊤

-- each of these is
abbrev pub AreJobLines : ℕ → List (List ℕ) → Type 0
AreJobLines workers [] = ⊤
AreJobLines workers (line ∷ lines) = IsJobLine (job_reading workers line) × AreJobLines workers lines
