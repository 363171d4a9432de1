use Rattle.step_laws.proofs.Answered.{hit_matches}
use Rattle.model_laws.proofs.laws.hit_matches.Goals as goal

pub returns : goal.returns
returns c = hit_matches
