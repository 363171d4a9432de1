use Rattle.script_run.proofs.Flushed.{flush_owns}
use Rattle.script_run.proofs.laws.flush_owns.Goals as goal

pub returns : goal.returns
returns c = flush_owns
