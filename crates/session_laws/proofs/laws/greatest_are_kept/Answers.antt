use Rattle.session_laws.proofs.KnownPuts.{greatest_are_kept}
use Rattle.session_laws.proofs.laws.greatest_are_kept.Goals as goal

pub returns : goal.returns
returns c = greatest_are_kept
