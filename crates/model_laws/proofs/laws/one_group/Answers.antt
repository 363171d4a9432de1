use Rattle.model_laws.proofs.Asked.{one_group}
use Rattle.model_laws.proofs.laws.one_group.Goals as goal

pub returns : goal.returns
returns c = one_group
