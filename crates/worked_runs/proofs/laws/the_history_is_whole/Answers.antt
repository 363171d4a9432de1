use Rattle.worked_runs.proofs.Sentences.{history_is_whole}
use Rattle.worked_runs.proofs.laws.the_history_is_whole.Goals as goal

pub returns : goal.returns
returns c = history_is_whole c.honest_runs_are_whole.ensures
