use Rattle.worked_runs.proofs.Whole.{run_agrees}
use Rattle.worked_runs.proofs.laws.each_run_agrees.Goals as goal

pub returns : goal.returns
returns c = run_agrees c.runs_agree_before_trouble.ensures c.the_script_is_concluded.ensures
