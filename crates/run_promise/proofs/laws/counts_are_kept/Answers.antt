use Rattle.run_promise.proofs.Saying.{counts_are_kept}
use Rattle.run_promise.proofs.laws.counts_are_kept.Goals as goal

pub returns : goal.returns
returns c = counts_are_kept
