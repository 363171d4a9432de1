use Rattle.cache_model.proofs.Onward.{steps_are_sound}
use Rattle.model_laws.proofs.laws.steps_are_sound.Goals as goal

pub returns : goal.returns
returns c = steps_are_sound
