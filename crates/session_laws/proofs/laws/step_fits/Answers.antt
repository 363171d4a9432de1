use Rattle.session_laws.proofs.Fits.{step_fits}
use Rattle.session_laws.proofs.laws.step_fits.Goals as goal

pub returns : goal.returns
returns c = step_fits
