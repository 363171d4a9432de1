use Rattle.session_laws.proofs.Syncs.{sync_is_held}
use Rattle.session_laws.proofs.sync_laws.sync_is_held.Goals as goal

pub returns : goal.returns
returns c = sync_is_held
