use Rattle.stripe_actors.proofs.Refusing.{writers_counted}
use Rattle.stripe_actors.proofs.laws.writers_are_counted.Goals as goal

pub returns : goal.returns
returns c = writers_counted
