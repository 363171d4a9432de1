use Rattle.stripe_actors.proofs.Telling.{followed_told}
use Rattle.stripe_actors.proofs.laws.followed_is_told.Goals as goal

pub returns : goal.returns
returns c = followed_told
