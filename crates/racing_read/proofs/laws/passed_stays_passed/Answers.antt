use Rattle.racing_read.proofs.Worth.{passed_stays_passed}
use Rattle.racing_read.proofs.laws.passed_stays_passed.Goals as goal

pub returns : goal.returns
returns g c = passed_stays_passed g.T.KeptState
