use Rattle.call_laws.proofs.Served.{serves_begins}
use Rattle.call_laws.proofs.laws.serves_begins.Goals as goal

pub returns : goal.returns
returns g c = λ now a b asked o f. serves_begins f
