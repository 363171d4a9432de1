use Rattle.model_laws.proofs.Backed.{faults_rise}
use Rattle.model_laws.proofs.laws.faults_rise.Goals as goal

pub returns : goal.returns
returns c = faults_rise
