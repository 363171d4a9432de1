use Rattle.model_laws.proofs.Counted.{counted_step}
use Rattle.model_laws.proofs.laws.steps_count.Goals as goal

pub returns : goal.returns
returns c = counted_step
