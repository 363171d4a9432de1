use Rattle.model_laws.proofs.Asked.{lookup_is_one}
use Rattle.model_laws.proofs.laws.lookup_is_one.Goals as goal

pub returns : goal.returns
returns c = lookup_is_one
