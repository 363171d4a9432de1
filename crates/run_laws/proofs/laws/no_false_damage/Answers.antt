use Rattle.account_laws.proofs.Troubles.{no_false_damage}
use Rattle.run_laws.proofs.laws.no_false_damage.Goals as goal

pub returns : goal.returns
returns c = no_false_damage c.damage_is_recorded.ensures c.damage_stays.ensures
