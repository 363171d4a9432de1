use Rattle.step_laws.proofs.Answered.{removed_is_missed}
use Rattle.model_laws.proofs.laws.removed_is_missed.Goals as goal

pub returns : goal.returns
returns c = removed_is_missed
