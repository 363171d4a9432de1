use Rattle.worked_runs.proofs.Sentences.{get_is_whole}
use Rattle.worked_runs.proofs.laws.the_get_is_whole.Goals as goal

pub returns : goal.returns
returns c = get_is_whole c.got_is_whole.ensures c.the_script_is_answered.ensures
