use Rattle.session_laws.proofs.AskSyncs.{sync_is_due_or_asked}
use Rattle.session_laws.proofs.sync_laws.sync_is_due_or_asked.Goals as goal

pub returns : goal.returns
returns c = sync_is_due_or_asked
