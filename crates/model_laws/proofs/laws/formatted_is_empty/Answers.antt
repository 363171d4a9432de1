use Rattle.step_laws.proofs.Answered.{formatted_is_empty}
use Rattle.model_laws.proofs.laws.formatted_is_empty.Goals as goal

pub returns : goal.returns
returns c = formatted_is_empty
