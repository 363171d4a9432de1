use Rattle.worked_runs.proofs.Gotten.{get_is_a_step}
use Rattle.worked_runs.proofs.a_get_is_a_step.Goals as goal

pub returns : goal.returns
returns c = get_is_a_step
