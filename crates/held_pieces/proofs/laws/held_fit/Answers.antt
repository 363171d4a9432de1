use Rattle.held_pieces.proofs.Slotted.{held_fit}
use Rattle.held_pieces.proofs.laws.held_fit.Goals as goal

pub returns : goal.returns
returns c = held_fit
