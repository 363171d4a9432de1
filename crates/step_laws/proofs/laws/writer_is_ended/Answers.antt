use Rattle.step_laws.proofs.Cleanup.{writer_is_ended}
use Rattle.step_laws.proofs.laws.writer_is_ended.Goals as goal

pub returns : goal.returns
returns c = writer_is_ended
