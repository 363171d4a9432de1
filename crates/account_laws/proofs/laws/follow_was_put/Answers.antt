use Rattle.account_laws.proofs.Whole.{follow_was_put}
use Rattle.account_laws.proofs.laws.follow_was_put.Goals as goal

pub returns : goal.returns
returns c = follow_was_put c.follow_is_asked.ensures
