use Rattle.reader_laws.proofs.Joining.{OfReaders, all_given}
use Rattle.reader_laws.proofs.laws.all_given.Goals as goal

pub returns : goal.returns
returns c =
    let laws : OfReaders = record {
      steps = record { one_group = c.one_group.ensures; numbers_follow = c.numbers_follow.ensures; reader_is_closed = c.reader_is_closed.ensures };
      lines = record {
        numbers_follow = c.numbers_follow.ensures;
        legal_is_sound = c.legal_is_sound.ensures;
        steps_are_sound = c.steps_are_sound.ensures;
        formats_keep = c.formats_keep.ensures;
        steps_keep = c.steps_keep.ensures;
      };
      nothing_asked = c.nothing_asked.ensures;
    } in
    λ run s turn bytes lines turns r actor last size legal opens. all_given laws run s turn bytes r legal opens lines turns actor last size
