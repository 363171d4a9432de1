use Rattle.script_run.proofs.Losses.{losses_stay}
use Rattle.script_laws.proofs.laws.losses_stay.Goals as goal

pub returns : goal.returns
returns c = losses_stay
