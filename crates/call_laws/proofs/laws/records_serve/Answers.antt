use Rattle.call_laws.proofs.Groups.{serves_none, serves_recorded}
use Rattle.call_laws.proofs.laws.records_serve.Goals as goal

pub returns-clause-records : goal.returns-clause-records
returns-clause-records g c = λ now a b i e added happens does. serves_recorded i e added happens does

pub returns-clause-none : goal.returns-clause-none
returns-clause-none g c = λ now a b i e still does. serves_none i e still does
