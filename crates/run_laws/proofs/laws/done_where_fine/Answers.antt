use Rattle.run_laws.proofs.Endings.{done_where_fine}
use Rattle.run_laws.proofs.laws.done_where_fine.Goals as goal

pub returns : goal.returns
returns c = done_where_fine
