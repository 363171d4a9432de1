use Rattle.worked_runs.proofs.Tells.{is_concluded}
use Rattle.worked_runs.proofs.the_script_is_concluded.Goals as goal

pub returns : goal.returns
returns c = is_concluded c.the_script_is_a_run.ensures c.the_script_is_answered.ensures
