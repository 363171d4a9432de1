use Rattle.session_laws.proofs.ForgetAnswers.{forgotten_is_unrecorded}
use Rattle.session_laws.proofs.laws.forgotten_is_unrecorded.Goals as goal

pub returns : goal.returns
returns c = forgotten_is_unrecorded
