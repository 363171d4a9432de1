use Rattle.std.proofs.Common.{◌≡◌}
use Rattle.packed_directory.specs.AllWalks.{IsAllWalk, rows_ahead, buckets_ahead}
use Rattle.packed_directory.proofs.packed.PackedDirectory.next_of_all.Given as goal

abbrev pub invariant-loop-walk : goal.invariant-loop-walk
invariant-loop-walk l = record {
  walk : IsAllWalk l.self l.walk;
  rows : rows_ahead l.self l.walk ≡ rows_ahead l.self l.initial.walk;
}

abbrev pub decreases-loop-walk : goal.decreases-loop-walk
decreases-loop-walk l = buckets_ahead l.self.geometry l.walk
