use Rattle.step_laws.proofs.Places.{replaced_is_nowhere}
use Rattle.model_laws.proofs.laws.replaced_is_nowhere.Goals as goal

pub returns : goal.returns
returns c = replaced_is_nowhere
