use Rattle.cause_laws.proofs.Listing.{found_is_listed}
use Rattle.cause_laws.proofs.laws.found_is_listed.Goals as goal

pub returns : goal.returns
returns c = found_is_listed c.legal_is_kept.ensures
