use Rattle.account_laws.proofs.Counting.{counts_are_reached}
use Rattle.run_laws.proofs.laws.counts_are_reached.Goals as goal

pub returns : goal.returns
returns c = counts_are_reached
