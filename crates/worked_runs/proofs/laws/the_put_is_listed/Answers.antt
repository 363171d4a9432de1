use Rattle.worked_runs.proofs.Sentences.{put_is_listed}
use Rattle.worked_runs.proofs.laws.the_put_is_listed.Goals as goal

pub returns : goal.returns
returns c = put_is_listed c.found_is_listed.ensures c.the_script_is_answered.ensures
