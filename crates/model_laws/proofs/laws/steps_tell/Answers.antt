use Rattle.step_laws.proofs.ToldGroups.{told_step}
use Rattle.model_laws.proofs.laws.steps_tell.Goals as goal

pub returns : goal.returns
returns c = told_step
