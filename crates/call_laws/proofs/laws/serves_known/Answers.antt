use Rattle.call_laws.proofs.Known.{serves_carries, serves_given, serves_known, serves_wider}
use Rattle.call_laws.proofs.laws.serves_known.Goals as goal

pub returns-clause-before : goal.returns-clause-before
returns-clause-before g c = λ now a b asked o law f. serves_given g.P.Promise.between law f

pub returns-clause-behind : goal.returns-clause-behind
returns-clause-behind g c = λ now a b asked o law f. serves_known g.P.Promise.between law f

pub returns-clause-carried : goal.returns-clause-carried
returns-clause-carried g c = λ now a b asked o law f. serves_carries g.P.Promise.between g.P.Promise.more law f

pub returns-clause-wider : goal.returns-clause-wider
returns-clause-wider g c = λ now a b asked o law f. serves_wider g.P.Promise.placed g.P.Promise.other_placed law f
