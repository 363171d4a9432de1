use Rattle.worked_runs.proofs.Missed.{miss_is_a_step}
use Rattle.worked_runs.proofs.a_miss_is_a_step.Goals as goal

pub returns : goal.returns
returns c = miss_is_a_step
