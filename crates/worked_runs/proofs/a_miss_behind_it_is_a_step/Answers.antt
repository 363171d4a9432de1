use Rattle.worked_runs.proofs.Gotten.{last_is_a_step}
use Rattle.worked_runs.proofs.a_miss_behind_it_is_a_step.Goals as goal

pub returns : goal.returns
returns c = last_is_a_step
