use Rattle.std.proofs.Common.{rules, [], refl, sym, arith}
use Rattle.cache_replay.specs.Getting.{given_in, got_answer}
use Rattle.cache_replay.proofs.ReadsOn.{closed_leaves, leaves_more}
use Rattle.cache_replay.proofs.WholeReads.{answered_as}
use Rattle.cache_replay.proofs.OtherNext.{sound_closed}
use Rattle.cache_replay.proofs.getting.read_whole.Goals as goal

pub returns-in_ok-close-in-Ok-clause-leaves : goal.returns-in_ok-close-in-Ok-clause-leaves
returns-in_ok-close-in-Ok-clause-leaves g c =
    leaves_more _ _ _ _ _ c.read_to_end.ensures.number c.read_to_end.ensures.leaves (closed_leaves _ _ _ c.close.ensures.keeps c.close.ensures.stands c.close.ensures.own)

pub returns-in_err-close-in-Ok-clause-leaves : goal.returns-in_err-close-in-Ok-clause-leaves
returns-in_err-close-in-Ok-clause-leaves g c =
    leaves_more _ _ _ _ _ c.read_to_end.ensures.number c.read_to_end.ensures.leaves (closed_leaves _ _ _ c.close.ensures.keeps c.close.ensures.stands c.close.ensures.own)

pub returns-in_ok-close-in-Ok-clause-reads : goal.returns-in_ok-close-in-Ok-clause-reads
returns-in_ok-close-in-Ok-clause-reads g c = record {
  answers = λ first asks under.
      c.in_ok-close-in-Ok.ensures.closes first asks (given_in c.in-Ok.got) (got_answer c.in-Ok.got)
      (answered_as g.S.Calls _ _ _ _ (sym c.read_to_end.ensures.number) refl (c.in-Ok.ensures.reads.answers first asks under));
  unharmed = λ first asks under.
      sound_closed g.S.Calls first c.args.cache.now c.read_to_end.new.cache c.close.new.cache asks (g.S.Calls.reading c.args.reader) []
      c.read_to_end.ensures.leaves.goes.goes c.close.ensures.keeps.goes_on.goes under (c.read_to_end.ensures.reads.unharmed first asks under) c.close.ensures.keeps.unharmed;
  counts = λ none. let told = c.in-Ok.ensures.reads.counts none in omega (arith, told, c.close.ensures.keeps.goes_on.later);
}

pub returns-in_err-close-in-Ok-clause-reads : goal.returns-in_err-close-in-Ok-clause-reads
returns-in_err-close-in-Ok-clause-reads g c = record {
  answers = search rules;
  unharmed = λ first asks under.
      sound_closed g.S.Calls first c.args.cache.now c.read_to_end.new.cache c.close.new.cache asks (g.S.Calls.reading c.args.reader) []
      c.read_to_end.ensures.leaves.goes.goes c.close.ensures.keeps.goes_on.goes under (c.read_to_end.ensures.reads.unharmed first asks under) c.close.ensures.keeps.unharmed;
  counts = search rules;
}
