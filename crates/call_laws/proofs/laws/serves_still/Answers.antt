use Rattle.call_laws.proofs.Served.{serves_still}
use Rattle.call_laws.proofs.laws.serves_still.Goals as goal

pub returns : goal.returns
returns g c = λ now a b asked still. serves_still asked still
