use Rattle.std.proofs.Common.{◌≡◌, ◌/◌, ◌++◌, length, map}
use Rattle.std.specs.List.{All}
use Rattle.dir_entry.specs.Layout.{entry_of_bytes}
use Rattle.dir_segment.specs.Image.{entries_in_bytes}
use Rattle.dir_segment.proofs.slots.Slots.from_bytes.Given as goal

abbrev pub invariant-loop-ten : goal.invariant-loop-ten
invariant-loop-ten l = record {
  spelled : map entry_of_bytes l.packed.items ++ entries_in_bytes (length l.rest / 10) l.rest
      ≡ entries_in_bytes (length l.bytes / 10) l.bytes;
  tens : All (λ bytes. length bytes ≡ 10) l.packed.items;
}

abbrev pub decreases-loop-ten : goal.decreases-loop-ten
decreases-loop-ten l = length l.rest
