use Rattle.worked_runs.proofs.Sentences.{removal_was_recorded}
use Rattle.worked_runs.proofs.laws.the_removal_was_recorded.Goals as goal

pub returns : goal.returns
returns c = removal_was_recorded c.answered_removal_was_recorded.ensures c.the_script_is_answered.ensures
