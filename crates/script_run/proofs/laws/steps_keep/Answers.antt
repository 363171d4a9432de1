use Rattle.script_run.proofs.Stepping.{steps_keep}
use Rattle.script_run.proofs.laws.steps_keep.Goals as goal

pub returns : goal.returns
returns c = steps_keep c.writer_is_ended.ensures
