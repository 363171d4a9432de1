use Rattle.worked_runs.proofs.Whole.{run_is_steady}
use Rattle.worked_runs.proofs.laws.the_run_is_steady.Goals as goal

pub returns : goal.returns
returns c = run_is_steady c.switched_runs_are_steady.ensures
