use Rattle.std.proofs.Common.{◌≡◌, ◌≢◌, ◌<◌, [], length, get_or, sym, ap, ◌∙◌, arith}
use Rattle.std.specs.Prelude.{not}
use Rattle.dir_segment.specs.Lists.{Lists, row, chain_of, has_slot, behind_slot}
use Rattle.dir_segment.specs.Purging.{is_unmarked}
use Rattle.dir_segment.proofs.Sweeping.{swept, swept_kept, swept_gone, swept_end, thin_begin, thin_none, begins, next_gone_from, fewer_next, some_row}
use Rattle.dir_segment.proofs.segment.Segment.thin_bucket.Goals as goal

pub returns-in_default-clause-lists : goal.returns-in_default-clause-lists
returns-in_default-clause-lists c = sym (thin_none (is_unmarked c.args.gone.now.marks) c.args.self.now c.args.bucket c.in_default.ensures.next)

pub loop-slot-smaller-then-has : goal.loop-slot-smaller-then-has
loop-slot-smaller-then-has c =
    let old = c.loop-slot.self in
    let b = c.args.bucket in
    let before = c.loop-slot.before in
    let lt : b < length old.chains = omega (arith, c.loop-slot.invariant.width, c.requires.bucket) in
    let gone = next_gone_from old b before c.in-Some-chain.slot c.in-Some-chain.field-0-1 lt c.loop-slot.invariant.held c.in-Some-chain.ensures.next.0 in
    let long : length (behind_slot before (get_or c.take_next.new.self.chains b [])) ≡ length _ = ap (λ (q : Lists). length (behind_slot before (get_or q.chains b []))) c.take_next.ensures in
    omega (arith, long, gone.less)

pub loop-slot-preserved-then-has : goal.loop-slot-preserved-then-has
loop-slot-preserved-then-has c =
    let old = c.loop-slot.self in
    let b = c.args.bucket in
    let before = c.loop-slot.before in
    let test = is_unmarked c.args.gone.now.marks in
    let lt : b < length old.chains = omega (arith, c.loop-slot.invariant.width, c.requires.bucket) in
    let next = c.in-Some-chain.ensures.next.0 in
    let gone = next_gone_from old b before c.in-Some-chain.slot c.in-Some-chain.field-0-1 lt c.loop-slot.invariant.held next in
    let some : behind_slot before (chain_of old b) ≢ [] = some_row (behind_slot before (chain_of old b)) (row c.in-Some-chain.slot c.in-Some-chain.field-0-1) (behind_slot c.in-Some-chain.slot (chain_of old b)) next in
    let less = fewer_next old b before lt some in
    record {
      width = ap (λ (q : Lists). length q.chains) c.take_next.ensures ∙ less.width ∙ c.loop-slot.invariant.width;
      held = ap (λ (q : Lists). has_slot before (get_or q.chains b [])) c.take_next.ensures ∙ gone.held;
      lists = ap (λ (q : Lists). swept test q b before) c.take_next.ensures
          ∙ swept_gone test old b before c.in-Some-chain.slot c.in-Some-chain.field-0-1 lt next (ap not (sym c.has.ensures ∙ c.if-has.true))
          ∙ c.loop-slot.invariant.lists;
    }

pub loop-slot-preserved : goal.loop-slot-preserved
loop-slot-preserved c = record {
  width = c.loop-slot.invariant.width;
  held = c.in-Some-chain.ensures.next.1;
  lists = swept_kept (is_unmarked c.args.gone.now.marks) c.loop-slot.self c.args.bucket c.loop-slot.before c.in-Some-chain.slot c.in-Some-chain.field-0-1 c.in-Some-chain.ensures.next.0
      (ap not (sym c.has.ensures ∙ c.if-has.false))
      ∙ c.loop-slot.invariant.lists;
}

pub returns-clause-lists : goal.returns-clause-lists
returns-clause-lists c =
    sym (swept_end (is_unmarked c.args.gone.now.marks) c.loop-slot.self c.args.bucket c.loop-slot.before c.in_default-chain.ensures.next)
    ∙ c.loop-slot.invariant.lists
    ∙ thin_begin (is_unmarked c.args.gone.now.marks) c.args.self.now c.args.bucket c.in-Some.root
    (begins c.in-Some.root c.in-Some.field-0-1 (chain_of c.args.self.now c.args.bucket) c.in-Some.ensures.next.0)
