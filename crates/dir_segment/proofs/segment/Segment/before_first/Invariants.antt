use Rattle.std.proofs.Common.{◌≡◌, true, false, length}
use Rattle.std.specs.List.{list_any}
use Rattle.dir_segment.specs.Lists.{has_slot, chain_of, behind_slot, is_that, passes}
use Rattle.dir_segment.proofs.Searching.{upto}
use Rattle.dir_segment.proofs.segment.Segment.before_first.Given as goal

abbrev pub invariant-loop-slot : goal.invariant-loop-slot
invariant-loop-slot l = record {
  held : has_slot l.before (chain_of l.self l.bucket) ≡ true;
  none : list_any (passes (is_that l.tag l.offset l.phase)) (upto l.before (chain_of l.self l.bucket)) ≡ false;
}

abbrev pub decreases-loop-slot : goal.decreases-loop-slot
decreases-loop-slot l = length (behind_slot l.before (chain_of l.self l.bucket))
