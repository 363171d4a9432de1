use Rattle.std.proofs.Common.{◌≡◌, ◌*◌, ◌∙◌, arith}
use Rattle.dir_segment.specs.Lists.{new_lists}
use Rattle.dir_segment.proofs.Fresh.{fresh_segment}
use Rattle.dir_segment.proofs.Walks.{own_lists, lists_of-is}
use Rattle.dir_segment.proofs.segment.Segment.new.Goals as goal

pub invariant_of-result : goal.invariant_of-result
invariant_of-result c =
    let end : c.loop-slot.slot ≡ 4 * c.args.buckets = omega arith in
    own_lists c.loop-slot.slots 1 (3 * c.args.buckets) 0 c.args.buckets (new_lists c.args.buckets)
    (fresh_segment c.loop-slot.slots c.args.buckets (λ k lt. c.loop-slot.invariant.filled k (omega (arith, end, lt))) c.requires.buckets.0 c.requires.buckets.1 (c.loop-slot.invariant.size ∙ end))

pub returns : goal.returns
returns c =
    let end : c.loop-slot.slot ≡ 4 * c.args.buckets = omega arith in
    lists_of-is c.loop-slot.slots 1 (3 * c.args.buckets) 0 c.args.buckets (new_lists c.args.buckets)
    (fresh_segment c.loop-slot.slots c.args.buckets (λ k lt. c.loop-slot.invariant.filled k (omega (arith, end, lt))) c.requires.buckets.0 c.requires.buckets.1 (c.loop-slot.invariant.size ∙ end))
