use Rattle.call_laws.proofs.Asking.{lookups_ask}
use Rattle.call_laws.proofs.laws.lookups_ask.Goals as goal

pub returns : goal.returns
returns g c = lookups_ask g.P.Promise.placed g.P.Promise.before g.P.Promise.known
