use Rattle.call_laws.proofs.Served.{serves_fails, serves_fails_again}
use Rattle.call_laws.proofs.laws.serves_fails.Goals as goal

pub returns-clause-fails : goal.returns-clause-fails
returns-clause-fails g c = λ now a b c asked more why f l. serves_fails more f l

pub returns-clause-again : goal.returns-clause-again
returns-clause-again g c = λ now a b c asked more why o f short l. serves_fails_again more f short l
