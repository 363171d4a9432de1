use Rattle.worked_runs.proofs.Gotten.{hit_is_a_step}
use Rattle.worked_runs.proofs.a_hit_is_a_step.Goals as goal

pub returns : goal.returns
returns c = hit_is_a_step
