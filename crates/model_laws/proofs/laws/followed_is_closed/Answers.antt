use Rattle.step_laws.proofs.Answered.{followed_is_closed}
use Rattle.model_laws.proofs.laws.followed_is_closed.Goals as goal

pub returns : goal.returns
returns c = followed_is_closed
