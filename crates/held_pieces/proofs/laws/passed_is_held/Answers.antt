use Rattle.held_pieces.proofs.Going.{passed_is_held}
use Rattle.held_pieces.proofs.laws.passed_is_held.Goals as goal

pub returns : goal.returns
returns c = passed_is_held
