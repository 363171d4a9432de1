use Rattle.held_pieces.proofs.Going.{room_may_grow}
use Rattle.held_pieces.proofs.laws.room_may_grow.Goals as goal

pub returns : goal.returns
returns c = room_may_grow
