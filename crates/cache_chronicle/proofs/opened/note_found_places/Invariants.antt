use Rattle.std.proofs.Common.{◌≤◌, ◌+◌, length, drop}
use Rattle.std.specs.Prelude.{map}
use Rattle.std.specs.HashMap.{spare}
use Rattle.cache_model.specs.State.{place_of_found}
use Rattle.cache_chronicle.specs.Tables.{HasPlaces}
use Rattle.cache_chronicle.proofs.opened.note_found_places.Given as goal

abbrev pub invariant-loop-left : goal.invariant-loop-left
invariant-loop-left l = record {
  within : l.left ≤ length l.list;
  has : HasPlaces l.places (map place_of_found (drop l.left l.list));
  spare : spare l.fn.places + l.left ≤ spare l.places + length l.list;
}

abbrev pub decreases-loop-left : goal.decreases-loop-left
decreases-loop-left l = l.left
