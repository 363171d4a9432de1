-- Which turns of a history are those of a worker's steps.
use Rattle.std.specs.Prelude.{ℕ, List}
use Rattle.stripe_lock.specs.declared.view.StripeTurn.{StripeTurn}
use Rattle.shared_steps.specs.declared.job.StepJob.{StepJob}
use Rattle.shared_steps.specs.declared.shared.StepRecord.{StepRecord}
use Rattle.shared_steps.specs.Histories.{TakesOwn}

-- the number of a step among those of its worker
abbrev pub step_number : {X : Type 0} → StepJob X → ℕ
step_number job = job.number

-- a turn took the step of its job
abbrev pub StepFits : {S X A W : Type 0} → (old new : StepJob X) → List (StepRecord S X A W) → List (StripeTurn (StepRecord S X A W)) → StripeTurn (StepRecord S X A W) → Unit {0} → Type 0
StepFits old new chronicle before turn answer = TakesOwn old.step turn
