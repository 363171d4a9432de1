use Rattle.cache_model.proofs.SoundFlush.{flush_is_sound}
use Rattle.model_laws.proofs.laws.flush_is_sound.Goals as goal

pub returns : goal.returns
returns c = flush_is_sound
