use Rattle.account_laws.proofs.Troubles.{no_false_faults}
use Rattle.run_laws.proofs.laws.no_false_faults.Goals as goal

pub returns : goal.returns
returns c = no_false_faults c.fault_is_recorded.ensures c.answers_are_traced.ensures c.faults_rise.ensures
