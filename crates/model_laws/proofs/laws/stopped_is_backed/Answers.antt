use Rattle.model_laws.proofs.BackedFlush.{stopped_is_backed}
use Rattle.model_laws.proofs.laws.stopped_is_backed.Goals as goal

pub returns : goal.returns
returns c = stopped_is_backed
