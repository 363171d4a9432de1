use Rattle.script_run.proofs.OnlyReading.{reads_own}
use Rattle.script_run.proofs.laws.reads_own.Goals as goal

pub returns : goal.returns
returns c = reads_own
