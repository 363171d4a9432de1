use Rattle.session_laws.proofs.Asks.{mark_is_taken_back, marked_places_nothing}
use Rattle.session_laws.proofs.sync_laws.marked_places_nothing.Goals as goal

pub returns-clause-none : goal.returns-clause-none
returns-clause-none c = marked_places_nothing

pub returns-clause-back : goal.returns-clause-back
returns-clause-back c = mark_is_taken_back
