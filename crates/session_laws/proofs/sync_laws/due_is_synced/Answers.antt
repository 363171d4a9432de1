use Rattle.session_laws.proofs.AskSyncs.{due_is_synced, flush_begins, room_begins}
use Rattle.session_laws.proofs.sync_laws.due_is_synced.Goals as goal

pub returns-clause-due : goal.returns-clause-due
returns-clause-due c = due_is_synced

pub returns-clause-flush : goal.returns-clause-flush
returns-clause-flush c = flush_begins

pub returns-clause-room : goal.returns-clause-room
returns-clause-room c = room_begins
