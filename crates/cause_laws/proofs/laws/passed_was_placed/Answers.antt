use Rattle.cause_laws.proofs.Standing.{passed_was_placed}
use Rattle.cause_laws.proofs.laws.passed_was_placed.Goals as goal

pub returns : goal.returns
returns c = passed_was_placed c.legal_is_kept.ensures
