use Rattle.reader_laws.proofs.Openers.{reader_is_opened}
use Rattle.reader_laws.proofs.laws.reader_is_opened.Goals as goal

pub returns : goal.returns
returns c = reader_is_opened (record {
  numbers_follow = c.numbers_follow.ensures;
  legal_is_sound = c.legal_is_sound.ensures;
  steps_are_sound = c.steps_are_sound.ensures;
  formats_keep = c.formats_keep.ensures;
  steps_keep = c.steps_keep.ensures;
}) c.one_group.ensures c.hit_is_put.ensures
