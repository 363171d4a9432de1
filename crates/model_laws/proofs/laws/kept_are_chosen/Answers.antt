use Rattle.model_laws.proofs.Chosen.{kept_are_chosen}
use Rattle.model_laws.proofs.laws.kept_are_chosen.Goals as goal

pub returns : goal.returns
returns c = kept_are_chosen
