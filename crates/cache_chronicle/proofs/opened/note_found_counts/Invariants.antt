use Rattle.std.proofs.Common.{◌≤◌, ◌+◌, length, drop}
use Rattle.std.specs.List.{flat_map}
use Rattle.std.specs.HashMap.{spare}
use Rattle.cache_model.specs.State.{count_of_found}
use Rattle.cache_chronicle.specs.Tables.{HasCounts}
use Rattle.cache_chronicle.proofs.opened.note_found_counts.Given as goal

abbrev pub invariant-loop-left : goal.invariant-loop-left
invariant-loop-left l = record {
  within : l.left ≤ length l.list;
  has : HasCounts l.counts (flat_map count_of_found (drop l.left l.list));
  spare : spare l.fn.counts + l.left ≤ spare l.counts + length l.list;
}

abbrev pub decreases-loop-left : goal.decreases-loop-left
decreases-loop-left l = l.left
