use Rattle.cache_model.proofs.SoundFlush.{stopped_is_sound}
use Rattle.model_laws.proofs.laws.stopped_is_sound.Goals as goal

pub returns : goal.returns
returns c = stopped_is_sound
