use Rattle.model_laws.proofs.Counted.{unanswered_is_counted}
use Rattle.model_laws.proofs.laws.unanswered_is_counted.Goals as goal

pub returns : goal.returns
returns c = unanswered_is_counted
