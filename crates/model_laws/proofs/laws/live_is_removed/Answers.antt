use Rattle.model_laws.proofs.Asked.{live_is_removed}
use Rattle.model_laws.proofs.laws.live_is_removed.Goals as goal

pub returns : goal.returns
returns c = live_is_removed
