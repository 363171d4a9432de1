use Rattle.cause_laws.proofs.Standing.{no_match_fits_none}
use Rattle.cause_laws.proofs.laws.no_match_fits_none.Goals as goal

pub returns : goal.returns
returns c = no_match_fits_none c.legal_is_kept.ensures c.runs_are_counted.ensures
