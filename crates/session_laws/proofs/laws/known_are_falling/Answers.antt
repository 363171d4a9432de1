use Rattle.session_laws.proofs.KnownPuts.{known_are_falling}
use Rattle.session_laws.proofs.laws.known_are_falling.Goals as goal

pub returns : goal.returns
returns c = known_are_falling
