use Rattle.reader_laws.proofs.Lengths.{length_is_told}
use Rattle.reader_laws.proofs.laws.length_is_told.Goals as goal

pub returns : goal.returns
returns c = length_is_told (record {
  numbers_follow = c.numbers_follow.ensures;
  legal_is_sound = c.legal_is_sound.ensures;
  steps_are_sound = c.steps_are_sound.ensures;
  formats_keep = c.formats_keep.ensures;
  steps_keep = c.steps_keep.ensures;
}) c.one_group.ensures
