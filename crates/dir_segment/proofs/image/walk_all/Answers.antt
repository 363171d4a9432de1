use Rattle.std.proofs.Common.{◌*◌, ◌∙◌, false, length, sym, ap, arith}
use Rattle.dir_segment.proofs.Marking.{length-unmarked, walked}
use Rattle.dir_segment.proofs.image.walk_all.Goals as goal

pub walk_buckets-requires-clause-size : goal.walk_buckets-requires-clause-size
walk_buckets-requires-clause-size c = ap length c.requires.start ∙ length-unmarked (4 * c.args.buckets) ∙ sym c.requires.whole.0

pub overflow_sub-found : goal.overflow_sub-found
overflow_sub-found c =
    let rest = walked false c.args.slots.now (length c.args.slots.now) c.args.head c.walk_buckets.new.reached c.walk.new.reached c.in_ok-walk_buckets.ensures.size c.in_ok-walk.ensures.walks in
    omega (arith, rest.total, c.count-before.ensures.marks, c.count-after.ensures.marks)
