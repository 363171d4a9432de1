use Rattle.account_laws.proofs.Answered.{giving_up_was_answered}
use Rattle.account_laws.proofs.laws.giving_up_was_answered.Goals as goal

pub returns : goal.returns
returns c = giving_up_was_answered c.legal_is_kept.ensures
