use Rattle.cause_laws.proofs.NeverPut.{never_put_was_none}
use Rattle.cause_laws.proofs.laws.never_put_was_none.Goals as goal

pub returns : goal.returns
returns c = never_put_was_none c.vectors_are_on_record.ensures
