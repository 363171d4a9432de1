use Rattle.script_laws.proofs.Faults.{refusal_is_recorded}
use Rattle.script_laws.proofs.laws.refusal_is_recorded.Goals as goal

pub returns : goal.returns
returns c = refusal_is_recorded
