use Rattle.cause_laws.proofs.Closing.{losses_are_caused}
use Rattle.cause_laws.proofs.laws.losses_are_caused.Goals as goal

pub returns : goal.returns
returns c = losses_are_caused
