use Rattle.worked_runs.proofs.Whole.{no_damage_is_told}
use Rattle.worked_runs.proofs.laws.no_damage_is_told.Goals as goal

pub returns : goal.returns
returns c = no_damage_is_told c.no_false_damage.ensures
