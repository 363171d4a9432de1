use Rattle.step_laws.proofs.Places.{vector_is_last}
use Rattle.model_laws.proofs.laws.vector_is_last.Goals as goal

pub returns : goal.returns
returns c = vector_is_last
