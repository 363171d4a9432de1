use Rattle.account_laws.proofs.Answered.{completed_was_answered}
use Rattle.account_laws.proofs.laws.completed_was_answered.Goals as goal

pub returns : goal.returns
returns c = completed_was_answered c.legal_is_kept.ensures
