use Rattle.session_laws.proofs.Fitting.{slot_is_made}
use Rattle.session_laws.proofs.laws.slot_is_made.Goals as goal

pub returns : goal.returns
returns c = slot_is_made
