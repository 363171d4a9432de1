use Rattle.model_laws.proofs.Counted.{counted_group}
use Rattle.model_laws.proofs.laws.groups_count.Goals as goal

pub returns : goal.returns
returns c = counted_group
