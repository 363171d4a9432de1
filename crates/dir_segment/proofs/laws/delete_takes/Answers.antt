use Rattle.dir_segment.proofs.Entering.{delete_takes_lem, missed_stays_lem}
use Rattle.dir_segment.proofs.laws.delete_takes.Goals as goal

pub returns-clause-takes : goal.returns-clause-takes
returns-clause-takes c = delete_takes_lem

pub returns-clause-missed : goal.returns-clause-missed
returns-clause-missed c = missed_stays_lem
