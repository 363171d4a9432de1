use Rattle.std.proofs.Common.{◌≡◌, ◌≤◌, ◌*◌, ◌^◌, take}
use Rattle.packed_directory.specs.PackedImage.{entries_in}
use Rattle.packed_directory.proofs.image.count_entries.Given as goal

abbrev pub invariant-loop-segment : goal.invariant-loop-segment
invariant-loop-segment l = record {
  count : l.count ≡ entries_in (take l.segment-index l.segments);
  few : l.count ≤ l.segment-index * 2 ^ 32;
}
