use Rattle.call_laws.proofs.Joined.{call_then}
use Rattle.call_laws.proofs.laws.calls_join.Goals as goal

pub returns : goal.returns
returns g c = λ now a b c law f l. call_then law f l
