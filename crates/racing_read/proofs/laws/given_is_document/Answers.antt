use Rattle.racing_read.proofs.Worth.{given_is_document}
use Rattle.racing_read.proofs.laws.given_is_document.Goals as goal

pub returns : goal.returns
returns g c = given_is_document g.T.KeptState
