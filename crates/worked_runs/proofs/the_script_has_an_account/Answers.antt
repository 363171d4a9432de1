use Rattle.worked_runs.proofs.Tells.{has_account}
use Rattle.worked_runs.proofs.the_script_has_an_account.Goals as goal

pub returns : goal.returns
returns c = has_account c.the_script_is_a_run.ensures c.the_script_is_answered.ensures
