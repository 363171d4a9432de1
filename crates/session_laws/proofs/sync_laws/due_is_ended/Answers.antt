use Rattle.session_laws.proofs.AskSyncs.{due_is_ended}
use Rattle.session_laws.proofs.sync_laws.due_is_ended.Goals as goal

pub returns : goal.returns
returns c = due_is_ended
