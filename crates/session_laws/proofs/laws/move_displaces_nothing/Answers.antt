use Rattle.session_laws.proofs.Fits.{move_displaces_nothing}
use Rattle.session_laws.proofs.laws.move_displaces_nothing.Goals as goal

pub returns : goal.returns
returns c = move_displaces_nothing
