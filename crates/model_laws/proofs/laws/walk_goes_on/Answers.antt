use Rattle.cache_model.proofs.Walks.{walk_goes_on}
use Rattle.model_laws.proofs.laws.walk_goes_on.Goals as goal

pub returns : goal.returns
returns c = walk_goes_on
