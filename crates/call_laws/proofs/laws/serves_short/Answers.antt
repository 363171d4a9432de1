use Rattle.call_laws.proofs.Served.{serves_short}
use Rattle.call_laws.proofs.laws.serves_short.Goals as goal

pub returns : goal.returns
returns g c = λ now a b asked more o short none f. serves_short more short none f
