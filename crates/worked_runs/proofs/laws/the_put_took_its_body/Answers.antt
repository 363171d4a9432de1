use Rattle.worked_runs.proofs.Sentences.{put_took_body}
use Rattle.worked_runs.proofs.laws.the_put_took_its_body.Goals as goal

pub returns : goal.returns
returns c = put_took_body c.put_took_its_body.ensures c.the_script_is_answered.ensures
