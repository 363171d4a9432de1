use Rattle.cache_model.proofs.Walks.{walk_finds}
use Rattle.model_laws.proofs.laws.walk_finds.Goals as goal

pub returns : goal.returns
returns c = walk_finds
