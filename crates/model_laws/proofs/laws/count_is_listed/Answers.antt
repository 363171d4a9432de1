use Rattle.model_laws.proofs.Counted.{count_is_listed}
use Rattle.model_laws.proofs.laws.count_is_listed.Goals as goal

pub returns : goal.returns
returns c = count_is_listed
