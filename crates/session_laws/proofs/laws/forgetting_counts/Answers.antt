use Rattle.session_laws.proofs.CountedForgetting.{forgetting_counts}
use Rattle.session_laws.proofs.laws.forgetting_counts.Goals as goal

pub returns : goal.returns
returns c = forgetting_counts
