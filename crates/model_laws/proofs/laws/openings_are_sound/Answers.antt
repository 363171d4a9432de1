use Rattle.cache_model.proofs.Onward.{opening_is_sound}
use Rattle.model_laws.proofs.laws.openings_are_sound.Goals as goal

pub returns : goal.returns
returns c = λ packed s g o h. opening_is_sound packed g o h
