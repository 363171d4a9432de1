use Rattle.cause_laws.proofs.Displacing.{break_was_displaced}
use Rattle.cause_laws.proofs.laws.break_was_displaced.Goals as goal

pub returns : goal.returns
returns c = break_was_displaced
