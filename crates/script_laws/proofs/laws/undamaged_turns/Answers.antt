use Rattle.script_laws.proofs.TurnTroubles.{undamaged_turns}
use Rattle.script_laws.proofs.laws.undamaged_turns.Goals as goal

pub returns : goal.returns
returns c = undamaged_turns
