use Rattle.model_laws.proofs.BackedFlush.{front_is_backed}
use Rattle.model_laws.proofs.laws.front_is_backed.Goals as goal

pub returns : goal.returns
returns c = front_is_backed
