use Rattle.session_laws.proofs.ForgetAnswers.{no_record_is_told}
use Rattle.session_laws.proofs.laws.no_record_is_told.Goals as goal

pub returns : goal.returns
returns c = no_record_is_told
