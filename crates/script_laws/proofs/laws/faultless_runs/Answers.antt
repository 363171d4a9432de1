use Rattle.script_laws.proofs.Runs.{faultless_runs}
use Rattle.script_laws.proofs.laws.faultless_runs.Goals as goal

pub returns : goal.returns
returns c = faultless_runs
