use Rattle.model_laws.proofs.Asked.{empty_flush}
use Rattle.model_laws.proofs.laws.empty_flush.Goals as goal

pub returns : goal.returns
returns c = empty_flush
