use Rattle.stripe_actors.proofs.Telling.{writing_is_open}
use Rattle.stripe_actors.proofs.laws.open_is_writing.Goals as goal

pub returns : goal.returns
returns c = writing_is_open
