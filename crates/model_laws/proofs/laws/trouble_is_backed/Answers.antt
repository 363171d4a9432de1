use Rattle.model_laws.proofs.Backed.{trouble_is_backed}
use Rattle.model_laws.proofs.laws.trouble_is_backed.Goals as goal

pub returns : goal.returns
returns c = trouble_is_backed
