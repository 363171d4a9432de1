use Rattle.script_laws.proofs.TurnTroubles.{turns_tell_refusals}
use Rattle.script_laws.proofs.laws.turns_tell_refusals.Goals as goal

pub returns : goal.returns
returns c = turns_tell_refusals
