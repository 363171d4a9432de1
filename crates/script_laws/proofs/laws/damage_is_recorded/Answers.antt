use Rattle.script_laws.proofs.Damages.{damage_is_recorded}
use Rattle.script_laws.proofs.laws.damage_is_recorded.Goals as goal

pub returns : goal.returns
returns c = damage_is_recorded
