use Rattle.cause_laws.proofs.Verdicts.{gets_are_caused}
use Rattle.cause_laws.proofs.laws.gets_are_caused.Goals as goal

pub returns : goal.returns
returns c = gets_are_caused
