use Rattle.std.proofs.Common.{rules}
use Rattle.lock_trials.proofs.Standing.{none_under}
use Rattle.lock_trials.proofs.any.there_and_back.Goals as goal

pub returns-clause-same : goal.returns-clause-same
returns-clause-same g c = (none_under 0 _ (search rules) (search rules), search rules)
