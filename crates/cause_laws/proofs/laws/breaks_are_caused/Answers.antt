use Rattle.cause_laws.proofs.Verdicts.{breaks_are_caused}
use Rattle.cause_laws.proofs.laws.breaks_are_caused.Goals as goal

pub returns : goal.returns
returns c = breaks_are_caused
