use Rattle.session_laws.proofs.Syncs.{opened_is_told}
use Rattle.session_laws.proofs.laws.opened_is_told.Goals as goal

pub returns : goal.returns
returns c = opened_is_told
