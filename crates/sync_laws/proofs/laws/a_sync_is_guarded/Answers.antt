use Rattle.sync_laws.proofs.Syncs.{syncs_break_off, syncs_turn}
use Rattle.sync_laws.proofs.laws.a_sync_is_guarded.Goals as goal

pub returns-clause-turn : goal.returns-clause-turn
returns-clause-turn c = syncs_turn

pub returns-clause-stop : goal.returns-clause-stop
returns-clause-stop c = syncs_break_off
