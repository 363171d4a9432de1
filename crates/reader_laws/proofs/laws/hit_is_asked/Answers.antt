use Rattle.reader_laws.proofs.Hits.{hit_is_asked}
use Rattle.reader_laws.proofs.laws.hit_is_asked.Goals as goal

pub returns : goal.returns
returns c = hit_is_asked (record {
  numbers_follow = c.numbers_follow.ensures;
  legal_is_sound = c.legal_is_sound.ensures;
  steps_are_sound = c.steps_are_sound.ensures;
  formats_keep = c.formats_keep.ensures;
  steps_keep = c.steps_keep.ensures;
}) c.hit_is_put.ensures
