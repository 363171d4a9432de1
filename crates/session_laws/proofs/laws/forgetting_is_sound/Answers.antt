use Rattle.session_laws.proofs.Forgetting.{forgetting_is_sound}
use Rattle.session_laws.proofs.laws.forgetting_is_sound.Goals as goal

pub returns : goal.returns
returns c = forgetting_is_sound
