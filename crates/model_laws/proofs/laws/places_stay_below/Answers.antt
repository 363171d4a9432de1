use Rattle.model_laws.proofs.Below.{legal_is_below, places_stay_below}
use Rattle.model_laws.proofs.laws.places_stay_below.Goals as goal

pub returns-clause-records : goal.returns-clause-records
returns-clause-records c = places_stay_below

pub returns-clause-legal : goal.returns-clause-legal
returns-clause-legal c = legal_is_below
