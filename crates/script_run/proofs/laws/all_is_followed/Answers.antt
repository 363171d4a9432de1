use Rattle.script_run.proofs.Reading.{all_is_followed}
use Rattle.script_run.proofs.laws.all_is_followed.Goals as goal

pub returns : goal.returns
returns c = all_is_followed
