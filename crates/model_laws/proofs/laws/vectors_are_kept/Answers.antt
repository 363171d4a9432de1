use Rattle.step_laws.proofs.ToldGroups.{vectors_are_kept}
use Rattle.model_laws.proofs.laws.vectors_are_kept.Goals as goal

pub returns : goal.returns
returns c = vectors_are_kept
