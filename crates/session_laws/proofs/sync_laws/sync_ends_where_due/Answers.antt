use Rattle.session_laws.proofs.EndSyncs.{sync_ends_where_due}
use Rattle.session_laws.proofs.sync_laws.sync_ends_where_due.Goals as goal

pub returns : goal.returns
returns c = sync_ends_where_due
