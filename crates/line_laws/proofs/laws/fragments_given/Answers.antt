use Rattle.line_laws.proofs.Running.{fragments_given}
use Rattle.line_laws.proofs.laws.fragments_given.Goals as goal

pub returns : goal.returns
returns c = fragments_given (record { one_group = c.one_group.ensures; numbers_follow = c.numbers_follow.ensures; reader_is_closed = c.reader_is_closed.ensures })
