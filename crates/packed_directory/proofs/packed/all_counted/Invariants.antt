use Rattle.std.proofs.Common.{◌<◌, ℕ}
use Rattle.dir_segment.specs.Entries.{AreCounted}
use Rattle.packed_directory.specs.Packed.{segment_at}
use Rattle.packed_directory.proofs.packed.all_counted.Given as goal

abbrev pub invariant-loop-i : goal.invariant-loop-i
invariant-loop-i l = record {
  counted : (k : ℕ) → k < l.i → AreCounted (segment_at l.segments k);
}
