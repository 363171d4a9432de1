use Rattle.session_laws.proofs.Forgetting.{forgetting_tells}
use Rattle.session_laws.proofs.laws.forgetting_tells.Goals as goal

pub returns : goal.returns
returns c = forgetting_tells
