use Rattle.dir_table.proofs.Sharing.{enters_apart, loses_apart, wraps_apart}
use Rattle.dir_table.proofs.laws.rows_stay_apart.Goals as goal

pub returns-clause-enters : goal.returns-clause-enters
returns-clause-enters c = enters_apart

pub returns-clause-loses : goal.returns-clause-loses
returns-clause-loses c = loses_apart

pub returns-clause-wraps : goal.returns-clause-wraps
returns-clause-wraps c = wraps_apart
