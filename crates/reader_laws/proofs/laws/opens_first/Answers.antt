use Rattle.reader_laws.proofs.Opening.{opens_first}
use Rattle.reader_laws.proofs.laws.opens_first.Goals as goal

pub returns : goal.returns
returns c = opens_first c.one_group.ensures c.nothing_asked.ensures
