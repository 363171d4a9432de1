use Rattle.session_laws.proofs.Forgetting.{forgotten_is_dead}
use Rattle.session_laws.proofs.laws.forgotten_is_dead.Goals as goal

pub returns : goal.returns
returns c = forgotten_is_dead
