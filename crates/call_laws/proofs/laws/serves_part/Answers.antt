use Rattle.call_laws.proofs.Served.{serves_part}
use Rattle.call_laws.proofs.laws.serves_part.Goals as goal

pub returns : goal.returns
returns g c = λ now a b asked left more f. serves_part more f
