use Rattle.racing_read.proofs.Worth.{races_see_later_floors}
use Rattle.racing_read.proofs.laws.races_see_later_floors.Goals as goal

pub returns : goal.returns
returns g c = races_see_later_floors g.T.KeptState
