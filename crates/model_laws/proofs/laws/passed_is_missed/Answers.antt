use Rattle.step_laws.proofs.Answered.{passed_is_missed}
use Rattle.model_laws.proofs.laws.passed_is_missed.Goals as goal

pub returns : goal.returns
returns c = passed_is_missed
