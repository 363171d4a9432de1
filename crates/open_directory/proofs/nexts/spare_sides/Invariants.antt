use Rattle.std.proofs.Common.{◌-◌, ◌≤◌, length}
use Rattle.open_directory.proofs.nexts.spare_sides.Given as goal

abbrev pub invariant-loop-alloc : goal.invariant-loop-alloc
invariant-loop-alloc l = length l.fn.sides.items ≤ length l.sides.items

abbrev pub decreases-loop-alloc : goal.decreases-loop-alloc
decreases-loop-alloc l = l.count - length l.sides.items
