use Rattle.script_laws.proofs.Walking.{fault_stays}
use Rattle.script_laws.proofs.laws.fault_stays.Goals as goal

pub returns : goal.returns
returns c = fault_stays
