use Rattle.session_laws.proofs.Forgetting.{forgetting_leaves}
use Rattle.session_laws.proofs.laws.forgetting_leaves.Goals as goal

pub returns : goal.returns
returns c = forgetting_leaves
