use Rattle.racing_read.proofs.Worth.{race_is_decided}
use Rattle.racing_read.proofs.laws.race_is_decided.Goals as goal

pub returns : goal.returns
returns g c = race_is_decided g.T.KeptState
