use Rattle.reopening.proofs.Named.{marks_taken_up}
use Rattle.reopening.proofs.laws.marks_are_taken_up.Goals as goal

pub returns : goal.returns
returns c = marks_taken_up
