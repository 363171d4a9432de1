use Rattle.model_laws.proofs.Faithful.{group_is_fixed}
use Rattle.model_laws.proofs.laws.group_is_fixed.Goals as goal

pub returns : goal.returns
returns c = group_is_fixed
