use Rattle.cache_model.proofs.FewerRows.{less_fits}
use Rattle.session_laws.proofs.laws.less_fits.Goals as goal

pub returns : goal.returns
returns c = less_fits
