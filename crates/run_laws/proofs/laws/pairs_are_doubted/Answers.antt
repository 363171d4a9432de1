use Rattle.run_laws.proofs.Doubted.{pairs_are_doubted}
use Rattle.run_laws.proofs.laws.pairs_are_doubted.Goals as goal

pub returns : goal.returns
returns c = pairs_are_doubted
