use Rattle.reader_laws.proofs.Measures.{put_is_measured}
use Rattle.reader_laws.proofs.laws.put_is_measured.Goals as goal

pub returns : goal.returns
returns c = put_is_measured (record {
  numbers_follow = c.numbers_follow.ensures;
  legal_is_sound = c.legal_is_sound.ensures;
  steps_are_sound = c.steps_are_sound.ensures;
  formats_keep = c.formats_keep.ensures;
  steps_keep = c.steps_keep.ensures;
})
