use Rattle.step_laws.proofs.Places.{place_is_last}
use Rattle.model_laws.proofs.laws.place_is_last.Goals as goal

pub returns : goal.returns
returns c = place_is_last
