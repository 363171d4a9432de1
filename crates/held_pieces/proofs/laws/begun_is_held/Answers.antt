use Rattle.held_pieces.proofs.Beginning.{begun_is_held}
use Rattle.held_pieces.proofs.laws.begun_is_held.Goals as goal

pub returns : goal.returns
returns c = begun_is_held
