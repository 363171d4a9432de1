use Rattle.worked_runs.proofs.Sentences.{put_was_answered}
use Rattle.worked_runs.proofs.laws.the_put_was_answered.Goals as goal

pub returns : goal.returns
returns c = put_was_answered c.completed_was_answered.ensures
