use Rattle.script_run.proofs.Stepping.{steps_own}
use Rattle.script_run.proofs.laws.steps_own.Goals as goal

pub returns : goal.returns
returns c = steps_own c.writer_is_ended.ensures
