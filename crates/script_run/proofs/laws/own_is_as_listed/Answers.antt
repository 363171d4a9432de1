use Rattle.script_run.proofs.Others.{none_is_unlike, own_is_as_listed}
use Rattle.script_run.proofs.laws.own_is_as_listed.Goals as goal

pub returns-clause-listed : goal.returns-clause-listed
returns-clause-listed c = own_is_as_listed

pub returns-clause-unlike : goal.returns-clause-unlike
returns-clause-unlike c = none_is_unlike
