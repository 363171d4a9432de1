use Rattle.model_laws.proofs.Asked.{nothing_asked}
use Rattle.model_laws.proofs.laws.nothing_asked.Goals as goal

pub returns : goal.returns
returns c = nothing_asked
