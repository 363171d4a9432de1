use Rattle.session_laws.proofs.Lengths.{marks_are_openable}
use Rattle.session_laws.proofs.sync_laws.marks_are_openable.Goals as goal

pub returns : goal.returns
returns c = marks_are_openable
