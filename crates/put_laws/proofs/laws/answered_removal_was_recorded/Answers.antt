use Rattle.put_laws.proofs.Recording.{answered_removal_was_recorded}
use Rattle.put_laws.proofs.laws.answered_removal_was_recorded.Goals as goal

pub returns : goal.returns
returns c = answered_removal_was_recorded
