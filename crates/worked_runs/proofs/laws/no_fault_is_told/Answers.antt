use Rattle.worked_runs.proofs.Whole.{no_fault_is_told}
use Rattle.worked_runs.proofs.laws.no_fault_is_told.Goals as goal

pub returns : goal.returns
returns c = no_fault_is_told c.no_false_faults.ensures
