use Rattle.call_laws.proofs.Served.{serves_first, serves_on, serves_then}
use Rattle.call_laws.proofs.laws.serves_then.Goals as goal

pub returns-clause-then : goal.returns-clause-then
returns-clause-then g c = λ now a b c asked more o f l. serves_then f l

pub returns-clause-first : goal.returns-clause-first
returns-clause-first g c = λ now a b c i more o f l. serves_first f l

pub returns-clause-on : goal.returns-clause-on
returns-clause-on g c = λ now a b c asked left o f l. serves_on f l
