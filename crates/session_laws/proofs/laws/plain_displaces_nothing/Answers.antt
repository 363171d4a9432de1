use Rattle.model_laws.proofs.Undisplaced.{plain_displaces_nothing}
use Rattle.session_laws.proofs.laws.plain_displaces_nothing.Goals as goal

pub returns : goal.returns
returns c = plain_displaces_nothing
