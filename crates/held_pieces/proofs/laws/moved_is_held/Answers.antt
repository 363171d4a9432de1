use Rattle.held_pieces.proofs.Moving.{moved_is_held}
use Rattle.held_pieces.proofs.laws.moved_is_held.Goals as goal

pub returns : goal.returns
returns c = moved_is_held
