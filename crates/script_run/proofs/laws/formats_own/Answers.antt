use Rattle.script_run.proofs.Reading.{formats_own}
use Rattle.script_run.proofs.laws.formats_own.Goals as goal

pub returns : goal.returns
returns c = formats_own
