use Rattle.cache_model.proofs.VectorLaws.{vector_is_read_back}
use Rattle.cache_model.proofs.laws.vector_is_read_back.Goals as goal

pub returns : goal.returns
returns c = vector_is_read_back
