use Rattle.worked_runs.proofs.Whole.{run_is_told}
use Rattle.worked_runs.proofs.laws.the_run_is_told.Goals as goal

pub returns : goal.returns
returns c = run_is_told c.runs_are_told.ensures c.texts_have_lines.ensures.spelled c.the_script_is_concluded.ensures
