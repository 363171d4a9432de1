use Rattle.model_laws.proofs.Tried.{given_is_read}
use Rattle.model_laws.proofs.laws.given_is_read.Goals as goal

pub returns : goal.returns
returns c = given_is_read
