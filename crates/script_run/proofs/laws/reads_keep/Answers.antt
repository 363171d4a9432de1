use Rattle.script_run.proofs.OnlyReading.{reads_keep}
use Rattle.script_run.proofs.laws.reads_keep.Goals as goal

pub returns : goal.returns
returns c = reads_keep
