use Rattle.worked_runs.proofs.Sentences.{nothing_was_put}
use Rattle.worked_runs.proofs.laws.nothing_was_put.Goals as goal

pub returns : goal.returns
returns c = nothing_was_put c.never_put_was_none.ensures c.the_script_is_answered.ensures
