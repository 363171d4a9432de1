use Rattle.script_run.proofs.Hitting.{hit_is_put}
use Rattle.script_run.proofs.laws.hit_is_put.Goals as goal

pub returns : goal.returns
returns c = hit_is_put
