use Rattle.session_laws.proofs.Syncs.{only_later_are_allowed}
use Rattle.session_laws.proofs.sync_laws.only_later_are_allowed.Goals as goal

pub returns : goal.returns
returns c = only_later_are_allowed
