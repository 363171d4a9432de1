use Rattle.session_laws.proofs.Fits.{legal_fits}
use Rattle.session_laws.proofs.laws.legal_fits.Goals as goal

pub returns : goal.returns
returns c = legal_fits
