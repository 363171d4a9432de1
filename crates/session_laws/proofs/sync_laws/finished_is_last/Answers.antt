use Rattle.session_laws.proofs.Syncs.{finished_is_last}
use Rattle.session_laws.proofs.sync_laws.finished_is_last.Goals as goal

pub returns : goal.returns
returns c = finished_is_last
