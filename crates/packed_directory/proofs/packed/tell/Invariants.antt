use Rattle.std.proofs.Common.{◌≡◌, map, take}
use Rattle.packed_directory.specs.Phases.{place_of_entry}
use Rattle.packed_directory.proofs.packed.tell.Given as goal

abbrev pub invariant-loop-i : goal.invariant-loop-i
invariant-loop-i l = record {
  told : l.displaced.told ≡ record l.fn.displaced.told { places = map (place_of_entry l.beside.geometry l.beside.cursor) (take l.i l.purge.entries) };
  room : l.displaced.room ≡ l.fn.displaced.room;
}
