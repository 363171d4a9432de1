use Rattle.reopening.proofs.Beginning.{openings_begin}
use Rattle.reopening.proofs.laws.openings_may_begin.Goals as goal

pub returns : goal.returns
returns c = openings_begin
