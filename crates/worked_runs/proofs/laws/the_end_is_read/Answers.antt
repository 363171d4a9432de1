use Rattle.worked_runs.proofs.Sentences.{end_is_read}
use Rattle.worked_runs.proofs.laws.the_end_is_read.Goals as goal

pub returns : goal.returns
returns c = end_is_read c.end_is_read.ensures c.the_script_is_answered.ensures
