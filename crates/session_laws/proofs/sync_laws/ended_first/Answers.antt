use Rattle.session_laws.proofs.Asks.{ended_first}
use Rattle.session_laws.proofs.sync_laws.ended_first.Goals as goal

pub returns : goal.returns
returns c = ended_first
