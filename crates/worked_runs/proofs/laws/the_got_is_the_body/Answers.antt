use Rattle.worked_runs.proofs.Sentences.{got_is_body}
use Rattle.worked_runs.proofs.laws.the_got_is_the_body.Goals as goal

pub returns : goal.returns
returns c = got_is_body c.got_is_the_body.ensures
