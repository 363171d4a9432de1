use Rattle.run_laws.proofs.Fixed.{switched_runs_are_steady}
use Rattle.run_laws.proofs.laws.switched_runs_are_steady.Goals as goal

pub returns : goal.returns
returns c = switched_runs_are_steady
