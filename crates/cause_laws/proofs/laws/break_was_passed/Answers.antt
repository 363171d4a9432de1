use Rattle.cause_laws.proofs.Breaking.{break_was_passed}
use Rattle.cause_laws.proofs.laws.break_was_passed.Goals as goal

pub returns : goal.returns
returns c = break_was_passed
