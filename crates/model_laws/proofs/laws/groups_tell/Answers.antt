use Rattle.step_laws.proofs.ToldGroups.{told_group}
use Rattle.model_laws.proofs.laws.groups_tell.Goals as goal

pub returns : goal.returns
returns c = told_group
