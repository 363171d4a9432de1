use Rattle.put_laws.proofs.Recording.{answered_put_was_completed}
use Rattle.put_laws.proofs.laws.answered_put_was_completed.Goals as goal

pub returns : goal.returns
returns c = answered_put_was_completed c.legal_is_kept.ensures
