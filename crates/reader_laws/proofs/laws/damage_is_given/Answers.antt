use Rattle.reader_laws.proofs.Damages.{damage_is_given}
use Rattle.reader_laws.proofs.laws.damage_is_given.Goals as goal

pub returns : goal.returns
returns c = damage_is_given (record {
  numbers_follow = c.numbers_follow.ensures;
  legal_is_sound = c.legal_is_sound.ensures;
  steps_are_sound = c.steps_are_sound.ensures;
  formats_keep = c.formats_keep.ensures;
  steps_keep = c.steps_keep.ensures;
}) c.own_is_as_listed.ensures.unlike c.reads_keep.ensures
