use Rattle.std.proofs.Common.{◌≡◌, true, length}
use Rattle.dir_segment.specs.Lists.{chain_of, has_slot, behind_slot}
use Rattle.dir_segment.specs.Purging.{is_unmarked}
use Rattle.dir_segment.proofs.Sweeping.{swept}
use Rattle.dir_segment.proofs.segment.Segment.thin_bucket.Given as goal

abbrev pub invariant-loop-slot : goal.invariant-loop-slot
invariant-loop-slot l = record {
  width : length l.self.chains ≡ length l.initial.self.chains;
  held : has_slot l.before (chain_of l.self l.bucket) ≡ true;
  lists : swept (is_unmarked l.gone.marks) l.self l.bucket l.before ≡ swept (is_unmarked l.gone.marks) l.initial.self l.bucket l.root;
}

abbrev pub decreases-loop-slot : goal.decreases-loop-slot
decreases-loop-slot l = length (behind_slot l.before (chain_of l.self l.bucket))
