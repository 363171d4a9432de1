use Rattle.std.proofs.Common.{rules, refl, sym, ◌∙◌, ap, subst, arith}
use Rattle.script_grammar.specs.declared.answer.StepAnswer.TheVariants as answer
use Rattle.cache_replay.specs.Getting.{IsUnderway}
use Rattle.cache_replay.proofs.Counts.{broken_tells}
use Rattle.cache_replay.proofs.ReadsOn.{leaves_more, leaves_still, losses_read, still_ready}
use Rattle.cache_replay.proofs.WholeReads.{answered_as}
use Rattle.cache_replay.proofs.OtherNext.{sound_still, way_sound}
use Rattle.cache_replay.proofs.getting.read_to_end.Goals as goal

pub returns-in_err-body-clause-leaves : goal.returns-in_err-body-clause-leaves
returns-in_err-body-clause-leaves g c = leaves_still _ _ c.requires.ready.holds

pub returns-in_err-body-clause-reads : goal.returns-in_err-body-clause-reads
returns-in_err-body-clause-reads g c = record {
  answers = search rules;
  unharmed = λ first asks under. sound_still g.S.Calls first c.args.cache.now asks;
  counts = search rules;
}

pub loop-body-init : goal.loop-body-init
loop-body-init g c = record {
  ready = c.requires.ready;
  hit = record { reader = c.requires.hit.reader; hit = c.requires.hit.hit; put_is = refl };
  put = sym c.requires.hit.put_is;
  number = refl;
  page = refl;
  leaves = leaves_still _ _ c.requires.ready.holds;
  under = λ first asks under. subst (λ xs. IsUnderway g.S.Calls first c.args.cache.now asks (g.S.Calls.reading c.args.reader.now) xs) (sym c.in_ok-body.ensures.items) under;
  sound = λ first asks under. sound_still g.S.Calls first c.args.cache.now asks;
}

pub loop-body-preserved : goal.loop-body-preserved
loop-body-preserved g c = record {
  ready = still_ready _ _ _ _ _ c.read_more.ensures.leaves c.read_more.ensures.page c.loop-body.invariant.ready;
  hit = record { reader = c.read_more.ensures.reads.hit.reader; hit = c.read_more.ensures.reads.hit.hit; put_is = refl };
  put = sym c.read_more.ensures.reads.hit.put_is ∙ c.loop-body.invariant.put;
  number = c.read_more.ensures.reads.same ∙ c.loop-body.invariant.number;
  page = c.read_more.ensures.page ∙ c.loop-body.invariant.page;
  leaves = leaves_more _ _ _ _ _ c.loop-body.invariant.number c.loop-body.invariant.leaves c.read_more.ensures.leaves;
  under = λ first asks under. (rw c.in-Piece.is at c.in_ok-read_more.ensures.reads.comes) first asks (c.loop-body.invariant.under first asks under);
  sound = λ first asks under.
      way_sound g.S.Calls first c.args.cache.now c.loop-body.cache c.read_more.new.cache asks (g.S.Calls.reading c.loop-body.reader)
      c.loop-body.body.items c.read_more.ensures.leaves.goes.goes c.read_more.ensures.reads.unharmed
      (c.loop-body.invariant.under first asks under) (c.loop-body.invariant.sound first asks under);
}

pub returns-in_err-read_more-clause-leaves : goal.returns-in_err-read_more-clause-leaves
returns-in_err-read_more-clause-leaves g c = leaves_more _ _ _ _ _ c.loop-body.invariant.number c.loop-body.invariant.leaves c.read_more.ensures.leaves

pub returns-in_err-read_more-clause-reads : goal.returns-in_err-read_more-clause-reads
returns-in_err-read_more-clause-reads g c = record {
  answers = search rules;
  unharmed = λ first asks under.
      way_sound g.S.Calls first c.args.cache.now c.loop-body.cache c.read_more.new.cache asks (g.S.Calls.reading c.loop-body.reader)
      c.loop-body.body.items c.read_more.ensures.leaves.goes.goes c.read_more.ensures.reads.unharmed
      (c.loop-body.invariant.under first asks under) (c.loop-body.invariant.sound first asks under);
  counts = search rules;
}

pub returns-in-End-clause-leaves : goal.returns-in-End-clause-leaves
returns-in-End-clause-leaves g c = leaves_more _ _ _ _ _ c.loop-body.invariant.number c.loop-body.invariant.leaves c.read_more.ensures.leaves

pub returns-in-End-clause-reads : goal.returns-in-End-clause-reads
returns-in-End-clause-reads g c = record {
  answers = λ first asks under.
      answered_as g.S.Calls _ _ _ _ (c.read_more.ensures.reads.same ∙ c.loop-body.invariant.number)
      (ap (λ n. answer.Got n c.in-End.length c.read_more.new.body.items) c.loop-body.invariant.put)
      ((rw c.in-End.is at c.in_ok-read_more.ensures.reads.comes) first asks (c.loop-body.invariant.under first asks under));
  unharmed = λ first asks under.
      way_sound g.S.Calls first c.args.cache.now c.loop-body.cache c.read_more.new.cache asks (g.S.Calls.reading c.loop-body.reader)
      c.loop-body.body.items c.read_more.ensures.leaves.goes.goes c.read_more.ensures.reads.unharmed
      (c.loop-body.invariant.under first asks under) (c.loop-body.invariant.sound first asks under);
  counts = λ none. omega arith;
}

pub returns-in-NotYet-clause-leaves : goal.returns-in-NotYet-clause-leaves
returns-in-NotYet-clause-leaves g c = leaves_more _ _ _ _ _ c.loop-body.invariant.number c.loop-body.invariant.leaves c.read_more.ensures.leaves

pub returns-in-NotYet-clause-reads : goal.returns-in-NotYet-clause-reads
returns-in-NotYet-clause-reads g c = record {
  answers = λ first asks under.
      answered_as g.S.Calls _ _ _ _ (c.read_more.ensures.reads.same ∙ c.loop-body.invariant.number) (ap (λ n. answer.Follow n) c.loop-body.invariant.put)
      ((rw c.in-NotYet.is at c.in_ok-read_more.ensures.reads.comes) first asks (c.loop-body.invariant.under first asks under));
  unharmed = λ first asks under.
      way_sound g.S.Calls first c.args.cache.now c.loop-body.cache c.read_more.new.cache asks (g.S.Calls.reading c.loop-body.reader)
      c.loop-body.body.items c.read_more.ensures.leaves.goes.goes c.read_more.ensures.reads.unharmed
      (c.loop-body.invariant.under first asks under) (c.loop-body.invariant.sound first asks under);
  counts = λ none. omega arith;
}

pub returns-in-Broken-clause-leaves : goal.returns-in-Broken-clause-leaves
returns-in-Broken-clause-leaves g c = leaves_more _ _ _ _ _ c.loop-body.invariant.number c.loop-body.invariant.leaves c.read_more.ensures.leaves

pub returns-in-Broken-clause-reads : goal.returns-in-Broken-clause-reads
returns-in-Broken-clause-reads g c = record {
  answers = λ first asks under.
      answered_as g.S.Calls _ _ _ _ (c.read_more.ensures.reads.same ∙ c.loop-body.invariant.number) (refl)
      ((rw c.in-Broken.is at c.in_ok-read_more.ensures.reads.comes) first asks (c.loop-body.invariant.under first asks under));
  unharmed = λ first asks under.
      way_sound g.S.Calls first c.args.cache.now c.loop-body.cache c.read_more.new.cache asks (g.S.Calls.reading c.loop-body.reader)
      c.loop-body.body.items c.read_more.ensures.leaves.goes.goes c.read_more.ensures.reads.unharmed
      (c.loop-body.invariant.under first asks under) (c.loop-body.invariant.sound first asks under);
  counts = λ none.
      broken_tells c.in-Broken.why (g.S.Calls.at c.read_more.new.cache).device.faults
      ((rw c.in-Broken.is at c.in_ok-read_more.ensures.reads.counts) (losses_read _ _ _ c.loop-body.invariant.leaves.own none));
}
