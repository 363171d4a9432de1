use Rattle.run_laws.proofs.Damages.{damage_was_given}
use Rattle.run_laws.proofs.laws.damage_was_given.Goals as goal

pub returns : goal.returns
returns c = damage_was_given (record {
  traced = c.answers_are_traced.ensures;
  given = c.damage_is_given.ensures;
  stays = c.damage_stays.ensures;
  legal = c.legal_is_kept.ensures;
  unlike = c.own_is_as_listed.ensures.unlike;
  keep = c.reads_keep.ensures;
})
