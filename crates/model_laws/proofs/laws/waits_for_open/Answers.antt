use Rattle.step_laws.proofs.Answered.{waits_for_open}
use Rattle.model_laws.proofs.laws.waits_for_open.Goals as goal

pub returns : goal.returns
returns c = waits_for_open
