use Rattle.held_pieces.proofs.Starting.{fresh_is_held}
use Rattle.held_pieces.proofs.laws.fresh_is_held.Goals as goal

pub returns : goal.returns
returns c = fresh_is_held
