use Rattle.script_run.proofs.Flushed.{stopped_owns}
use Rattle.script_run.proofs.laws.stopped_owns.Goals as goal

pub returns : goal.returns
returns c = stopped_owns
