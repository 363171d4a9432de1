use Rattle.cause_laws.proofs.Standing.{removed_was_recorded}
use Rattle.cause_laws.proofs.laws.removed_was_recorded.Goals as goal

pub returns : goal.returns
returns c = removed_was_recorded
