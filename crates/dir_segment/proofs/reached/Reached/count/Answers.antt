use Rattle.std.proofs.Common.{arith}
use Rattle.dir_segment.proofs.Marking.{marked_le}
use Rattle.dir_segment.proofs.reached.Reached.count.Goals as goal

pub returns-clause-few : goal.returns-clause-few
returns-clause-few c = omega (arith, c.self.invariant, marked_le c.self.inside.marks.items)
