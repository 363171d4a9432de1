use Rattle.put_laws.proofs.Recording.{answered_abort_was_recorded}
use Rattle.put_laws.proofs.laws.answered_abort_was_recorded.Goals as goal

pub returns : goal.returns
returns c = answered_abort_was_recorded c.legal_is_kept.ensures
