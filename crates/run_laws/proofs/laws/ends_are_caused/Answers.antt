use Rattle.run_laws.proofs.Endings.{ends_are_caused}
use Rattle.run_laws.proofs.laws.ends_are_caused.Goals as goal

pub returns : goal.returns
returns c = ends_are_caused
