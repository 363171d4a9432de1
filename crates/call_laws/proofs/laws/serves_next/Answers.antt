use Rattle.call_laws.proofs.Served.{serves_ends, serves_next}
use Rattle.call_laws.proofs.laws.serves_next.Goals as goal

pub returns-clause-next : goal.returns-clause-next
returns-clause-next g c = λ now a b c asked i more f l. serves_next f l

pub returns-clause-ends : goal.returns-clause-ends
returns-clause-ends g c = λ now a b c asked i more o f l short none. serves_ends f l short none
