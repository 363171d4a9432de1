use Rattle.cache_model.proofs.Known.{live_is_known}
use Rattle.model_laws.proofs.laws.live_is_known.Goals as goal

pub returns : goal.returns
returns c = live_is_known
