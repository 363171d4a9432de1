use Rattle.step_laws.proofs.Places.{found_is_there}
use Rattle.model_laws.proofs.laws.found_is_there.Goals as goal

pub returns : goal.returns
returns c = found_is_there
