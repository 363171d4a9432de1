use Rattle.cause_laws.proofs.Standing.{aborted_was_last}
use Rattle.cause_laws.proofs.laws.aborted_was_last.Goals as goal

pub returns : goal.returns
returns c = aborted_was_last c.legal_is_kept.ensures
