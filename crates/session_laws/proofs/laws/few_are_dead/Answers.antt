use Rattle.session_laws.proofs.KnownPuts.{few_are_dead}
use Rattle.session_laws.proofs.laws.few_are_dead.Goals as goal

pub returns : goal.returns
returns c = few_are_dead
