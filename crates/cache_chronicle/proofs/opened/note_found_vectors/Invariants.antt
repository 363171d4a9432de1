use Rattle.std.proofs.Common.{◌≤◌, ◌+◌, length, drop}
use Rattle.std.specs.List.{flat_map}
use Rattle.std.specs.HashMap.{spare}
use Rattle.cache_model.specs.State.{vector_of_found}
use Rattle.cache_chronicle.specs.Tables.{HasVectors}
use Rattle.cache_chronicle.proofs.opened.note_found_vectors.Given as goal

abbrev pub invariant-loop-left : goal.invariant-loop-left
invariant-loop-left l = record {
  within : l.left ≤ length l.list;
  has : HasVectors l.vectors (flat_map vector_of_found (drop l.left l.list));
  spare : spare l.fn.vectors + l.left ≤ spare l.vectors + length l.list;
}

abbrev pub decreases-loop-left : goal.decreases-loop-left
decreases-loop-left l = l.left
