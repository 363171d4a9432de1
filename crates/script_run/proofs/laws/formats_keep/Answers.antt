use Rattle.script_run.proofs.Reading.{formats_keep}
use Rattle.script_run.proofs.laws.formats_keep.Goals as goal

pub returns : goal.returns
returns c = formats_keep
