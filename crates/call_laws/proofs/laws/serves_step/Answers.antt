use Rattle.call_laws.proofs.Whole.{serves_step}
use Rattle.call_laws.proofs.laws.serves_step.Goals as goal

pub returns : goal.returns
returns g c = λ now a b asked o why ends quiet k f. serves_step why ends quiet k f
