use Rattle.stripe_actors.proofs.Telling.{followed_same}
use Rattle.stripe_actors.proofs.laws.followed_is_found.Goals as goal

pub returns : goal.returns
returns c = followed_same
