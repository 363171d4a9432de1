use Rattle.script_run.proofs.Others.{given_is_listed}
use Rattle.script_run.proofs.laws.given_is_listed.Goals as goal

pub returns : goal.returns
returns c = given_is_listed
