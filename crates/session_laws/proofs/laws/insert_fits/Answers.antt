use Rattle.session_laws.proofs.Fitting.{insert_fits}
use Rattle.session_laws.proofs.laws.insert_fits.Goals as goal

pub returns : goal.returns
returns c = insert_fits
