use Rattle.script_laws.proofs.Damages.{damage_stays}
use Rattle.script_laws.proofs.laws.damage_stays.Goals as goal

pub returns : goal.returns
returns c = damage_stays
