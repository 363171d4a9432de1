use Rattle.script_laws.proofs.TurnTroubles.{faultless_turns}
use Rattle.script_laws.proofs.laws.faultless_turns.Goals as goal

pub returns : goal.returns
returns c = faultless_turns
