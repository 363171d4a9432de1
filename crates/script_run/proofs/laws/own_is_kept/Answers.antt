use Rattle.script_run.proofs.Fragments.{own_is_kept}
use Rattle.script_run.proofs.laws.own_is_kept.Goals as goal

pub returns : goal.returns
returns c = own_is_kept
