use Rattle.session_laws.proofs.ForgetAnswers.{reader_is_answered}
use Rattle.session_laws.proofs.laws.reader_is_answered.Goals as goal

pub returns : goal.returns
returns c = reader_is_answered
