use Rattle.model_laws.proofs.Purging.{displacements_agree}
use Rattle.model_laws.proofs.laws.displacements_agree.Goals as goal

pub returns : goal.returns
returns c = displacements_agree
