use Rattle.step_laws.proofs.Places.{place_follows}
use Rattle.model_laws.proofs.laws.place_follows.Goals as goal

pub returns : goal.returns
returns c = place_follows
