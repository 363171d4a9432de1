use Rattle.worked_runs.proofs.Gotten.{removal_is_a_step}
use Rattle.worked_runs.proofs.a_removal_is_a_step.Goals as goal

pub returns : goal.returns
returns c = removal_is_a_step
