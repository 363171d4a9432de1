use Rattle.model_laws.proofs.TriedFlush.{outcomes_are_found}
use Rattle.model_laws.proofs.laws.outcomes_are_found.Goals as goal

pub returns : goal.returns
returns c = outcomes_are_found
