use Rattle.model_laws.proofs.Tried.{answered_is_tried}
use Rattle.model_laws.proofs.laws.answered_is_tried.Goals as goal

pub returns : goal.returns
returns c = answered_is_tried
