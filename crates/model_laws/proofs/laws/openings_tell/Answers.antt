use Rattle.step_laws.proofs.ToldGroups.{openings_tell}
use Rattle.model_laws.proofs.laws.openings_tell.Goals as goal

pub returns : goal.returns
returns c = openings_tell
