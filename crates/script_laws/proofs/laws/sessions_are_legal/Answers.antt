use Rattle.script_laws.proofs.Sessions.{sessions_are_legal}
use Rattle.script_laws.proofs.laws.sessions_are_legal.Goals as goal

pub returns : goal.returns
returns c = sessions_are_legal
