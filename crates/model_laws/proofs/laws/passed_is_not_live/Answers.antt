use Rattle.step_laws.proofs.Places.{passed_is_not_live}
use Rattle.model_laws.proofs.laws.passed_is_not_live.Goals as goal

pub returns : goal.returns
returns c = passed_is_not_live
