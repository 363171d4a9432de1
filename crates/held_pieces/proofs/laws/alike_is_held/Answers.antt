use Rattle.held_pieces.proofs.Going.{alike_is_held}
use Rattle.held_pieces.proofs.laws.alike_is_held.Goals as goal

pub returns : goal.returns
returns c = alike_is_held
