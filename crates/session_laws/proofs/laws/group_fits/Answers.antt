use Rattle.session_laws.proofs.Fits.{group_fits}
use Rattle.session_laws.proofs.laws.group_fits.Goals as goal

pub returns : goal.returns
returns c = group_fits
