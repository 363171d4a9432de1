use Rattle.session_laws.proofs.ForgetAnswers.{kept_is_answered}
use Rattle.session_laws.proofs.laws.kept_is_answered.Goals as goal

pub returns : goal.returns
returns c = kept_is_answered
