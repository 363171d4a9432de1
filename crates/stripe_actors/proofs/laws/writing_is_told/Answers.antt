use Rattle.stripe_actors.proofs.Telling.{writing_told}
use Rattle.stripe_actors.proofs.laws.writing_is_told.Goals as goal

pub returns : goal.returns
returns c = writing_told
