use Rattle.std.proofs.Common.{◌≡◌, ◌≢◌, ◌<◌, [], length, get_or, sym, ap, ◌∙◌, arith}
use Rattle.dir_segment.specs.Lists.{Lists, row, chain_of, entry_count, has_slot, behind_slot, passes}
use Rattle.dir_segment.proofs.Sweeping.{swept, swept_kept, swept_gone, swept_end, swept_begin, next_gone_from, fewer_next, unlinked_fits, some_row}
use Rattle.dir_segment.proofs.segment.Segment.clean_behind.Goals as goal

pub loop-slot-preserved-then-is_kept : goal.loop-slot-preserved-then-is_kept
loop-slot-preserved-then-is_kept g c = record {
  width = c.loop-slot.invariant.width;
  fewer = c.loop-slot.invariant.fewer;
  held = c.in-Some.ensures.next.1;
  lists = λ test h. swept_kept (passes test) c.loop-slot.self c.args.bucket c.loop-slot.before c.in-Some.slot c.in-Some.entry c.in-Some.ensures.next.0
      (sym (h _ c.is_kept.result (unlinked_fits c.in-Some.entry c.in-Some.ensures.fits) c.is_kept.ensures) ∙ c.if-is_kept.true)
      ∙ c.loop-slot.invariant.lists test h;
}

pub loop-slot-smaller : goal.loop-slot-smaller
loop-slot-smaller g c =
    let old = c.loop-slot.self in
    let b = c.args.bucket in
    let before = c.loop-slot.before in
    let lt : b < length old.chains = omega (arith, c.loop-slot.invariant.width, c.requires.bucket) in
    let next = c.in-Some.ensures.next.0 in
    let gone = next_gone_from old b before c.in-Some.slot c.in-Some.entry lt c.loop-slot.invariant.held next in
    let long : length (behind_slot before (get_or c.take_next.new.self.chains b [])) ≡ length _ = ap (λ (q : Lists). length (behind_slot before (get_or q.chains b []))) c.take_next.ensures in
    omega (arith, long, gone.less)

pub loop-slot-preserved : goal.loop-slot-preserved
loop-slot-preserved g c =
    let old = c.loop-slot.self in
    let b = c.args.bucket in
    let before = c.loop-slot.before in
    let lt : b < length old.chains = omega (arith, c.loop-slot.invariant.width, c.requires.bucket) in
    let next = c.in-Some.ensures.next.0 in
    let gone = next_gone_from old b before c.in-Some.slot c.in-Some.entry lt c.loop-slot.invariant.held next in
    let some : behind_slot before (chain_of old b) ≢ [] = some_row (behind_slot before (chain_of old b)) (row c.in-Some.slot c.in-Some.entry) (behind_slot c.in-Some.slot (chain_of old b)) next in
    let less = fewer_next old b before lt some in
    let width : length c.take_next.new.self.chains ≡ length c.args.self.now.chains = ap (λ (q : Lists). length q.chains) c.take_next.ensures ∙ less.width ∙ c.loop-slot.invariant.width in
    let count : entry_count c.take_next.new.self.chains ≡ entry_count _ = ap (λ (q : Lists). entry_count q.chains) c.take_next.ensures in
    record {
      width = width;
      fewer = omega (arith, count, less.fewer, c.loop-slot.invariant.fewer);
      held = ap (λ (q : Lists). has_slot before (get_or q.chains b [])) c.take_next.ensures ∙ gone.held;
      lists = λ test h. ap (λ (q : Lists). swept (passes test) q b before) c.take_next.ensures
          ∙ swept_gone (passes test) old b before c.in-Some.slot c.in-Some.entry lt next (sym (h _ c.is_kept.result (unlinked_fits c.in-Some.entry c.in-Some.ensures.fits) c.is_kept.ensures) ∙ c.if-is_kept.false)
          ∙ c.loop-slot.invariant.lists test h;
    }

pub returns-clause-lists : goal.returns-clause-lists
returns-clause-lists g c = λ test h first.
    sym (swept_end (passes test) c.loop-slot.self c.args.bucket c.loop-slot.before c.in_default.ensures.next)
    ∙ c.loop-slot.invariant.lists test h ∙ swept_begin test c.args.self.now c.args.bucket c.args.root c.requires.root first
