use Rattle.cache_model.proofs.Onward.{legal_is_sound}
use Rattle.model_laws.proofs.laws.legal_is_sound.Goals as goal

pub returns : goal.returns
returns c = legal_is_sound
