use Rattle.device_log.proofs.CallLaws.{stopped_late}
use Rattle.device_log.proofs.FaultLaws.{refused_has_count, untold_has_none}
use Rattle.device_log.proofs.laws.faults_are_counted.Goals as goal

pub returns-clause-counted : goal.returns-clause-counted
returns-clause-counted c = refused_has_count

pub returns-clause-untold : goal.returns-clause-untold
returns-clause-untold c = untold_has_none

pub returns-clause-stops : goal.returns-clause-stops
returns-clause-stops c = stopped_late
