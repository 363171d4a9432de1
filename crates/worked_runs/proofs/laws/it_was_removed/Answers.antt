use Rattle.worked_runs.proofs.Sentences.{it_was_removed}
use Rattle.worked_runs.proofs.laws.it_was_removed.Goals as goal

pub returns : goal.returns
returns c = it_was_removed c.removed_was_recorded.ensures c.the_script_is_answered.ensures
