use Rattle.model_laws.proofs.TriedFlush.{given_are_tried}
use Rattle.model_laws.proofs.laws.given_are_tried.Goals as goal

pub returns : goal.returns
returns c = given_are_tried
