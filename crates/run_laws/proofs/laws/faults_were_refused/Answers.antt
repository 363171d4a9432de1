use Rattle.account_laws.proofs.Troubles.{faults_were_refused}
use Rattle.run_laws.proofs.laws.faults_were_refused.Goals as goal

pub returns : goal.returns
returns c = faults_were_refused c.fault_is_recorded.ensures c.damage_stays.ensures
