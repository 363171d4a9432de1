use Rattle.session_laws.proofs.Syncs.{marks_stay}
use Rattle.session_laws.proofs.sync_laws.marks_stay.Goals as goal

pub returns : goal.returns
returns c = marks_stay
