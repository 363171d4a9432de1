use Rattle.std.proofs.Common.{◌∙◌, sym}
use Rattle.dir_segment.specs.Lists.{chain_of, is_that}
use Rattle.dir_segment.proofs.Searching.{at_root, goes_on, none_at_all, before_it}
use Rattle.dir_segment.proofs.segment.Segment.before_first.Goals as goal

pub loop-slot-init : goal.loop-slot-init
loop-slot-init c =
    let both = at_root c.args.root (is_that c.args.tag c.args.offset c.args.phase) (chain_of c.args.self.now c.args.bucket) c.requires.root in
    record { held = both.0; none = both.1 }

pub returns-then-is_that-clause-some : goal.returns-then-is_that-clause-some
returns-then-is_that-clause-some c =
    before_it (is_that c.args.tag c.args.offset c.args.phase) c.loop-slot.before c.in-Some.slot c.in-Some.entry (chain_of c.args.self.now c.args.bucket) c.loop-slot.invariant.held c.in-Some.ensures.next.0 c.loop-slot.invariant.none (sym c.is_that.ensures ∙ c.if-is_that.true)

pub loop-slot-preserved : goal.loop-slot-preserved
loop-slot-preserved c = record {
  held = c.in-Some.ensures.next.1;
  none = goes_on (is_that c.args.tag c.args.offset c.args.phase) c.loop-slot.before c.in-Some.slot c.in-Some.entry (chain_of c.args.self.now c.args.bucket) c.in-Some.ensures.next.0 c.loop-slot.invariant.none (sym c.is_that.ensures ∙ c.if-is_that.false);
}

pub returns-clause-none : goal.returns-clause-none
returns-clause-none c = none_at_all (is_that c.args.tag c.args.offset c.args.phase) c.loop-slot.before (chain_of c.args.self.now c.args.bucket) c.in_default.ensures.next c.loop-slot.invariant.none
