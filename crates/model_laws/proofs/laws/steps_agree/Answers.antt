use Rattle.model_laws.proofs.AgreeingSteps.{steps_agree}
use Rattle.model_laws.proofs.laws.steps_agree.Goals as goal

pub returns : goal.returns
returns c = steps_agree
