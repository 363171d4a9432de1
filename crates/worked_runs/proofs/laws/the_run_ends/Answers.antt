use Rattle.worked_runs.proofs.Whole.{run_ends}
use Rattle.worked_runs.proofs.laws.the_run_ends.Goals as goal

pub returns : goal.returns
returns c = run_ends c.ends_are_caused.ensures c.texts_have_lines.ensures.spelled c.the_script_is_concluded.ensures
