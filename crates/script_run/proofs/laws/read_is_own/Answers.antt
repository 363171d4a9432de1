use Rattle.script_run.proofs.Reading.{read_is_own}
use Rattle.script_run.proofs.laws.read_is_own.Goals as goal

pub returns : goal.returns
returns c = read_is_own
