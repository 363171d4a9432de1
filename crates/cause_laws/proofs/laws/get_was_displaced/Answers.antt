use Rattle.cause_laws.proofs.Displacing.{get_was_displaced}
use Rattle.cause_laws.proofs.laws.get_was_displaced.Goals as goal

pub returns : goal.returns
returns c = get_was_displaced
