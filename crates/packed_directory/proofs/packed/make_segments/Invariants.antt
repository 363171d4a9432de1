use Rattle.std.proofs.Common.{◌≡◌}
use Rattle.std.specs.Prelude.{replicate}
use Rattle.dir_segment.specs.Lists.{new_lists}
use Rattle.packed_directory.proofs.packed.make_segments.Given as goal

abbrev pub invariant-loop : goal.invariant-loop
invariant-loop l = l.segments.items ≡ replicate l.counter (new_lists l.g.buckets)
