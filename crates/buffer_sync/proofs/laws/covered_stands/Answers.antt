use Rattle.buffer_sync.proofs.Standing.{covered_stands}
use Rattle.buffer_sync.proofs.laws.covered_stands.Goals as goal

pub returns : goal.returns
returns c = covered_stands
