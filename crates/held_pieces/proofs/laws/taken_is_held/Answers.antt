use Rattle.held_pieces.proofs.Going.{taken_is_held}
use Rattle.held_pieces.proofs.laws.taken_is_held.Goals as goal

pub returns : goal.returns
returns c = taken_is_held
