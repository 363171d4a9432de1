use Rattle.model_laws.proofs.Calm.{groups_agree}
use Rattle.model_laws.proofs.laws.groups_agree.Goals as goal

pub returns : goal.returns
returns c = groups_agree
