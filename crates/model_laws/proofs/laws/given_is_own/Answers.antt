use Rattle.step_laws.proofs.Answered.{given_is_own}
use Rattle.model_laws.proofs.laws.given_is_own.Goals as goal

pub returns : goal.returns
returns c = given_is_own
