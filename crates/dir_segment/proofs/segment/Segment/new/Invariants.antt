use Rattle.std.proofs.Common.{◌≡◌, ◌<◌, ℕ, length}
use Rattle.dir_segment.specs.Links.{at}
use Rattle.dir_segment.proofs.Fresh.{fresh}
use Rattle.dir_segment.proofs.segment.Segment.new.Given as goal

abbrev pub invariant-loop-slot : goal.invariant-loop-slot
invariant-loop-slot l = record {
  size : length l.slots ≡ l.slot;
  filled : (k : ℕ) → k < l.slot → at l.slots k ≡ fresh l.end k;
}
