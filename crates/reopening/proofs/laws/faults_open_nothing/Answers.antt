use Rattle.reopening.proofs.Whole.{faults_open}
use Rattle.reopening.proofs.laws.faults_open_nothing.Goals as goal

pub returns : goal.returns
returns c = faults_open
