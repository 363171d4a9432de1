use Rattle.model_laws.proofs.Tried.{hit_is_read}
use Rattle.model_laws.proofs.laws.hit_is_read.Goals as goal

pub returns : goal.returns
returns c = hit_is_read
