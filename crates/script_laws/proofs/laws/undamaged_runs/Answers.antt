use Rattle.script_laws.proofs.Runs.{undamaged_runs}
use Rattle.script_laws.proofs.laws.undamaged_runs.Goals as goal

pub returns : goal.returns
returns c = undamaged_runs
