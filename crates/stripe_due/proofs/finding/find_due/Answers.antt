use Rattle.std.proofs.Common.{◌∙◌, sym, arith}
use Rattle.std.proofs.lemmas.Grind.{common_steps}
use Rattle.cache_model.specs.Kept.{state_of}
use Rattle.stripe_due.proofs.Passing.{at_end, from_floor}
use Rattle.stripe_due.proofs.finding.find_due.Goals as goal

pub walk-init : goal.walk-init
walk-init g c =
    let s = state_of (g.C.Chronicle.kept c.args.chronicle.now) in
    record {
      due = rw (c.clear.ensures.items, c.requires.floor, c.requires.next) (from_floor s c.args.now);
      few = grind (arith, common_steps);
      room = grind (arith, common_steps);
    }

pub returns-clause-due : goal.returns-clause-due
returns-clause-due g c =
    let s = state_of (g.C.Chronicle.kept c.args.chronicle.now) in
    sym (at_end s c.args.now c.walk.place c.args.next c.walk.into.items c.walk-test.false) ∙ c.walk.invariant.due
