use Rattle.cause_laws.proofs.Getting.{get_was_passed}
use Rattle.cause_laws.proofs.laws.get_was_passed.Goals as goal

pub returns : goal.returns
returns c = get_was_passed
