use Rattle.line_laws.proofs.Standing.{legal_is_kept}
use Rattle.line_laws.proofs.laws.legal_is_kept.Goals as goal

pub returns : goal.returns
returns c = legal_is_kept (record {
  numbers_follow = c.numbers_follow.ensures;
  legal_is_sound = c.legal_is_sound.ensures;
  steps_are_sound = c.steps_are_sound.ensures;
  formats_keep = c.formats_keep.ensures;
  steps_keep = c.steps_keep.ensures;
})
