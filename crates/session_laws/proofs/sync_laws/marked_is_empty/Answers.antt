use Rattle.session_laws.proofs.MarkedEmpty.{marked_is_empty, marked_stays_empty}
use Rattle.session_laws.proofs.sync_laws.marked_is_empty.Goals as goal

pub returns-clause-group : goal.returns-clause-group
returns-clause-group c = marked_stays_empty

pub returns-clause-legal : goal.returns-clause-legal
returns-clause-legal c = marked_is_empty
