use Rattle.worked_runs.proofs.Sentences.{put_was_completed}
use Rattle.worked_runs.proofs.laws.the_put_was_completed.Goals as goal

pub returns : goal.returns
returns c = put_was_completed c.answered_put_was_completed.ensures c.the_script_is_answered.ensures
