use Rattle.script_run.proofs.Reading.{all_is_given}
use Rattle.script_run.proofs.laws.all_is_given.Goals as goal

pub returns : goal.returns
returns c = all_is_given
