use Rattle.cause_laws.proofs.Breaking.{break_was_aborted}
use Rattle.cause_laws.proofs.laws.break_was_aborted.Goals as goal

pub returns : goal.returns
returns c = break_was_aborted (record {
  opened = c.reader_is_opened.ensures;
  first = c.opens_first.ensures;
  kept = c.legal_is_kept.ensures;
  steps = record { one_group = c.one_group.ensures; numbers_follow = c.numbers_follow.ensures; reader_is_closed = c.reader_is_closed.ensures };
})
