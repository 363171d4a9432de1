use Rattle.session_laws.proofs.KnownPuts.{forgetting_twice}
use Rattle.session_laws.proofs.laws.forgetting_twice.Goals as goal

pub returns : goal.returns
returns c = forgetting_twice
