use Rattle.model_laws.proofs.Possible.{asked_is_answered}
use Rattle.model_laws.proofs.laws.asked_is_answered.Goals as goal

pub returns : goal.returns
returns c = asked_is_answered
