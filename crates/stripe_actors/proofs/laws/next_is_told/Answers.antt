use Rattle.stripe_actors.proofs.Telling.{next_told}
use Rattle.stripe_actors.proofs.laws.next_is_told.Goals as goal

pub returns : goal.returns
returns c = next_told
