use Rattle.model_laws.proofs.Asked.{too_large_is_not_placed}
use Rattle.model_laws.proofs.laws.too_large_is_not_placed.Goals as goal

pub returns : goal.returns
returns c = too_large_is_not_placed
