use Rattle.model_laws.proofs.Counted.{counted_format}
use Rattle.model_laws.proofs.laws.formats_count.Goals as goal

pub returns : goal.returns
returns c = counted_format
