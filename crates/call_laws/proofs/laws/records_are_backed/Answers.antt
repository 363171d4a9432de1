use Rattle.call_laws.proofs.Backed.{faults_are_refusals, refusals_are_faults}
use Rattle.call_laws.proofs.laws.records_are_backed.Goals as goal

pub returns-clause-faults : goal.returns-clause-faults
returns-clause-faults c = faults_are_refusals

pub returns-clause-refusals : goal.returns-clause-refusals
returns-clause-refusals c = refusals_are_faults
