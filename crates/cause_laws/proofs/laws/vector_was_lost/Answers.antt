use Rattle.cause_laws.proofs.Displaced.{vector_was_lost}
use Rattle.cause_laws.proofs.laws.vector_was_lost.Goals as goal

pub returns : goal.returns
returns c = vector_was_lost
