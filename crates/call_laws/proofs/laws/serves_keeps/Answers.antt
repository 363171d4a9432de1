use Rattle.call_laws.proofs.Kept.{serves_keeps}
use Rattle.call_laws.proofs.laws.serves_keeps.Goals as goal

pub returns : goal.returns
returns g c = λ now a b asked o keep first f. serves_keeps g.P.Promise.placed g.P.Promise.is_so keep first f
