use Rattle.held_pieces.proofs.Opened.{opened_is_held}
use Rattle.held_pieces.proofs.laws.opened_is_held.Goals as goal

pub returns : goal.returns
returns c = opened_is_held
