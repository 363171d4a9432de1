use Rattle.script_laws.proofs.Faults.{fault_is_recorded}
use Rattle.script_laws.proofs.laws.fault_is_recorded.Goals as goal

pub returns : goal.returns
returns c = fault_is_recorded
