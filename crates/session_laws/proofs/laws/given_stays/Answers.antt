use Rattle.session_laws.proofs.ForgetAnswers.{given_stays}
use Rattle.session_laws.proofs.laws.given_stays.Goals as goal

pub returns : goal.returns
returns c = given_stays
