use Rattle.step_laws.proofs.Cleanup.{reader_is_closed}
use Rattle.model_laws.proofs.laws.reader_is_closed.Goals as goal

pub returns : goal.returns
returns c = reader_is_closed
