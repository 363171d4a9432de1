use Rattle.cause_laws.proofs.Closing.{lost_was_displaced}
use Rattle.cause_laws.proofs.laws.lost_was_displaced.Goals as goal

pub returns : goal.returns
returns c = lost_was_displaced
