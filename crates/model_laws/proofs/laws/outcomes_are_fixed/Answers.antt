use Rattle.model_laws.proofs.FixedFlush.{outcomes_are_fixed}
use Rattle.model_laws.proofs.laws.outcomes_are_fixed.Goals as goal

pub returns : goal.returns
returns c = outcomes_are_fixed
