use Rattle.worked_runs.proofs.Gotten.{put_holds}
use Rattle.worked_runs.proofs.the_put_holds.Goals as goal

pub returns : goal.returns
returns c = put_holds
