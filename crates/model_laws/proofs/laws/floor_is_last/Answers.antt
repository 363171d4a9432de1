use Rattle.step_laws.proofs.Places.{floor_is_last}
use Rattle.model_laws.proofs.laws.floor_is_last.Goals as goal

pub returns : goal.returns
returns c = floor_is_last
