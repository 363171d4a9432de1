use Rattle.model_laws.proofs.Counted.{counted_opening}
use Rattle.model_laws.proofs.laws.openings_count.Goals as goal

pub returns : goal.returns
returns c = counted_opening
