use Rattle.step_laws.proofs.Answered.{complete_is_hit}
use Rattle.model_laws.proofs.laws.complete_is_hit.Goals as goal

pub returns : goal.returns
returns c = complete_is_hit
