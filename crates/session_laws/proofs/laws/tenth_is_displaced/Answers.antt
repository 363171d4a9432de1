use Rattle.session_laws.proofs.Tenths.{nothing_is_displaced, tenth_is_displaced}
use Rattle.session_laws.proofs.laws.tenth_is_displaced.Goals as goal

pub returns-clause-tenth : goal.returns-clause-tenth
returns-clause-tenth c = tenth_is_displaced

pub returns-clause-none : goal.returns-clause-none
returns-clause-none c = nothing_is_displaced
