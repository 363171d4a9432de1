use Rattle.worked_runs.proofs.Sentences.{removal_was_answered}
use Rattle.worked_runs.proofs.laws.the_removal_was_answered.Goals as goal

pub returns : goal.returns
returns c = removal_was_answered c.removal_was_answered.ensures
