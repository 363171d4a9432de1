use Rattle.headline.proofs.Honest.{honest_runs_are_whole}
use Rattle.headline.proofs.laws.honest_runs_are_whole.Goals as goal

pub returns : goal.returns
returns c = honest_runs_are_whole
