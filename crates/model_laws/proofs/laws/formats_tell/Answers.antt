use Rattle.step_laws.proofs.ToldGroups.{told_format}
use Rattle.model_laws.proofs.laws.formats_tell.Goals as goal

pub returns : goal.returns
returns c = told_format
