use Rattle.reopening.proofs.Places.{group_decides, places_suffice}
use Rattle.reopening.proofs.laws.places_suffice.Goals as goal

pub returns-clause-places : goal.returns-clause-places
returns-clause-places c = places_suffice

pub returns-clause-group : goal.returns-clause-group
returns-clause-group c = group_decides
