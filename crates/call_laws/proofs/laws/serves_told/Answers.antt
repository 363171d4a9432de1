use Rattle.call_laws.proofs.Kept.{serves_told, told_serves}
use Rattle.call_laws.proofs.laws.serves_told.Goals as goal

pub returns-clause-told : goal.returns-clause-told
returns-clause-told g c = λ now a b last asked o tell leave sound listed f. serves_told tell leave sound listed f

pub returns-clause-serves : goal.returns-clause-serves
returns-clause-serves g c = λ now a b asked o tell leave sound listed f. told_serves tell leave sound listed f
