use Rattle.worked_runs.proofs.Sentences.{hit_is_whole}
use Rattle.worked_runs.proofs.laws.the_hit_is_whole.Goals as goal

pub returns : goal.returns
returns c = hit_is_whole c.hit_is_whole.ensures c.the_script_is_answered.ensures
