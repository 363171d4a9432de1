use Rattle.worked_runs.proofs.Sentences.{each_run_is_done}
use Rattle.worked_runs.proofs.laws.each_run_is_done.Goals as goal

pub returns : goal.returns
returns c = each_run_is_done c.done_where_fine.ensures c.texts_have_lines.ensures.spelled
