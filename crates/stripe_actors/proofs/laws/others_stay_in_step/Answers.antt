use Rattle.stripe_actors.proofs.Telling.{others}
use Rattle.stripe_actors.proofs.laws.others_stay_in_step.Goals as goal

pub returns : goal.returns
returns c = others
