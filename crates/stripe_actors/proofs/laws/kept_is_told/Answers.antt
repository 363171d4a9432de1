use Rattle.stripe_actors.proofs.Telling.{kept_told}
use Rattle.stripe_actors.proofs.laws.kept_is_told.Goals as goal

pub returns : goal.returns
returns c = kept_told
