use Rattle.reader_laws.proofs.Ending.{end_is_all}
use Rattle.reader_laws.proofs.laws.end_is_all.Goals as goal

pub returns : goal.returns
returns c = end_is_all (record { one_group = c.one_group.ensures; numbers_follow = c.numbers_follow.ensures; reader_is_closed = c.reader_is_closed.ensures })
