use Rattle.account_laws.proofs.Answered.{removal_was_answered}
use Rattle.account_laws.proofs.laws.removal_was_answered.Goals as goal

pub returns : goal.returns
returns c = removal_was_answered
