use Rattle.stripe_header.proofs.CopyLaws.{accepted, again, shut_refused}
use Rattle.stripe_header.proofs.laws.copies_are_told.Goals as goal

pub returns-clause-accepted : goal.returns-clause-accepted
returns-clause-accepted c = again

pub returns-clause-found : goal.returns-clause-found
returns-clause-found c = accepted

pub returns-clause-shut : goal.returns-clause-shut
returns-clause-shut c = shut_refused
