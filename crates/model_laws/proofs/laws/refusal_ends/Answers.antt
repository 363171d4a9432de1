use Rattle.step_laws.proofs.Cleanup.{refusal_ends}
use Rattle.model_laws.proofs.laws.refusal_ends.Goals as goal

pub returns : goal.returns
returns c = refusal_ends
