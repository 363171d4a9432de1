use Rattle.std.proofs.Common.{◌≡◌, ◌<◌, ◌≤◌, ℕ, length}
use Rattle.packed_directory.specs.Cleaned.{IsCleaned}
use Rattle.packed_directory.specs.Packed.{segment_at}
use Rattle.packed_directory.proofs.packed.clean_all.Given as goal

abbrev pub invariant-loop-i : goal.invariant-loop-i
invariant-loop-i l = record {
  count : length l.segments.items ≡ length l.fn.segments.items;
  done : (k : ℕ) → k < l.i → IsCleaned l.beside.geometry l.beside.cursor l.low l.high (segment_at l.fn.segments.items k) (segment_at l.segments.items k);
  left : (k : ℕ) → l.i ≤ k → segment_at l.segments.items k ≡ segment_at l.fn.segments.items k;
}
