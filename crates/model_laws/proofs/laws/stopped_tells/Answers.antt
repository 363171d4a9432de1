use Rattle.step_laws.proofs.ToldFlush.{stopped_tells}
use Rattle.model_laws.proofs.laws.stopped_tells.Goals as goal

pub returns : goal.returns
returns c = stopped_tells
