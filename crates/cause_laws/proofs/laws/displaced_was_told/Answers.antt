use Rattle.cause_laws.proofs.Displaced.{displaced_was_told}
use Rattle.cause_laws.proofs.laws.displaced_was_told.Goals as goal

pub returns : goal.returns
returns c = displaced_was_told c.answers_are_traced.ensures
