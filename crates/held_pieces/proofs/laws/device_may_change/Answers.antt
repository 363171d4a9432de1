use Rattle.held_pieces.proofs.Going.{device_may_change}
use Rattle.held_pieces.proofs.laws.device_may_change.Goals as goal

pub returns : goal.returns
returns c = device_may_change
