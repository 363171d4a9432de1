use Rattle.cache_model.proofs.VectorLaws.{merged_is_spelled}
use Rattle.model_laws.proofs.laws.merged_is_spelled.Goals as goal

pub returns : goal.returns
returns c = merged_is_spelled
