use Rattle.account_laws.proofs.Opened.{OfReaders}
use Rattle.cause_laws.proofs.Readers.{end_is_read}
use Rattle.cause_laws.proofs.laws.end_is_read.Goals as goal

pub returns : goal.returns
returns c =
    let laws : OfReaders = record {
      opened = c.reader_is_opened.ensures;
      first = c.opens_first.ensures;
      kept = c.legal_is_kept.ensures;
      steps = record { one_group = c.one_group.ensures; numbers_follow = c.numbers_follow.ensures; reader_is_closed = c.reader_is_closed.ensures };
    } in
    end_is_read laws c.all_given.ensures
