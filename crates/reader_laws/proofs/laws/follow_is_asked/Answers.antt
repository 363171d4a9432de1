use Rattle.reader_laws.proofs.Hits.{follow_is_asked}
use Rattle.reader_laws.proofs.laws.follow_is_asked.Goals as goal

pub returns : goal.returns
returns c = follow_is_asked
