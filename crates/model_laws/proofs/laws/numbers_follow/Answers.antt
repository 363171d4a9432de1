use Rattle.model_laws.proofs.Backed.{numbers_follow}
use Rattle.model_laws.proofs.laws.numbers_follow.Goals as goal

pub returns : goal.returns
returns c = numbers_follow
