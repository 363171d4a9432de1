use Rattle.session_laws.proofs.Made.{asked_is_synced}
use Rattle.session_laws.proofs.sync_laws.asked_is_synced.Goals as goal

pub returns : goal.returns
returns c = asked_is_synced
