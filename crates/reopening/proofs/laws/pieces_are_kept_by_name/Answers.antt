use Rattle.reopening.proofs.ByName.{latest_apart, lengths_by_name, replaced_by_name}
use Rattle.reopening.proofs.laws.pieces_are_kept_by_name.Goals as goal

pub returns-clause-replaced : goal.returns-clause-replaced
returns-clause-replaced c = replaced_by_name

pub returns-clause-lengths : goal.returns-clause-lengths
returns-clause-lengths c = lengths_by_name

pub returns-clause-apart : goal.returns-clause-apart
returns-clause-apart c = latest_apart
