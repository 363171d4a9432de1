use Rattle.worked_runs.proofs.Gotten.{end_is_a_step}
use Rattle.worked_runs.proofs.an_end_is_a_step.Goals as goal

pub returns : goal.returns
returns c = end_is_a_step
