use Rattle.step_laws.proofs.Places.{taken_is_nowhere}
use Rattle.model_laws.proofs.laws.taken_is_nowhere.Goals as goal

pub returns : goal.returns
returns c = taken_is_nowhere
