use Rattle.held_pieces.proofs.Purging.{placed_is_held}
use Rattle.held_pieces.proofs.laws.placed_is_held.Goals as goal

pub returns : goal.returns
returns c = placed_is_held
