-- What was met last points on, and the number is not passed.
use Rattle.std.proofs.Common.{◌≡◌, ◌<◌}
use Rattle.dir_table.specs.Links.{row_at, PointsTo, first_at, entries_below}
use Rattle.dir_table.proofs.Numbers.{height, bound_of}
use Rattle.dir_table.proofs.links.pointing_to.Given as goal

abbrev pub invariant-loop-at : goal.invariant-loop-at
invariant-loop-at l = record {
  points : PointsTo l.links l.fn.spot l.before l.at;
  first : l.at ≡ first_at l.fn.spot (entries_below (row_at l.links) (bound_of l.links.next l.before));
  above : l.number < bound_of l.links.next l.before;
}

abbrev pub decreases-loop-at : goal.decreases-loop-at
decreases-loop-at l = height l.at
