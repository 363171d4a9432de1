use Rattle.step_laws.proofs.Places.{moved_is_there}
use Rattle.model_laws.proofs.laws.moved_is_there.Goals as goal

pub returns : goal.returns
returns c = moved_is_there
