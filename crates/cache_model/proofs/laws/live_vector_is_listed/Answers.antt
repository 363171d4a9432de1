use Rattle.cache_model.proofs.VectorLaws.{live_vector_is_listed}
use Rattle.cache_model.proofs.laws.live_vector_is_listed.Goals as goal

pub returns : goal.returns
returns c = live_vector_is_listed
