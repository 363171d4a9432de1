use Rattle.worked_runs.proofs.PutIn.{put_is_a_step}
use Rattle.worked_runs.proofs.a_put_is_a_step.Goals as goal

pub returns : goal.returns
returns c = put_is_a_step
