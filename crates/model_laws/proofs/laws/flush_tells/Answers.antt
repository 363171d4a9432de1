use Rattle.step_laws.proofs.ToldFlush.{flush_tells}
use Rattle.model_laws.proofs.laws.flush_tells.Goals as goal

pub returns : goal.returns
returns c = flush_tells
