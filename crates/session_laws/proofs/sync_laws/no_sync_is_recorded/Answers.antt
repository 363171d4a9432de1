use Rattle.session_laws.proofs.Asks.{no_sync_is_recorded, steps_tell_no_sync}
use Rattle.session_laws.proofs.sync_laws.no_sync_is_recorded.Goals as goal

pub returns-clause-group : goal.returns-clause-group
returns-clause-group c = no_sync_is_recorded

pub returns-clause-step : goal.returns-clause-step
returns-clause-step c = steps_tell_no_sync
