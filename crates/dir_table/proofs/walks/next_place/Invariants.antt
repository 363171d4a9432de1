-- The rows that were passed are out of range, and each is counted once at most.
use Rattle.std.proofs.Common.{◌≡◌, ◌≤◌, ◌+◌, true}
use Rattle.dir_table.specs.Links.{entries_of}
use Rattle.dir_table.specs.Trail.{is_on, places_left, count_left}
use Rattle.dir_table.proofs.walks.next_place.Given as goal

abbrev pub invariant-loop-row : goal.invariant-loop-row
invariant-loop-row l = record {
  on : is_on l.walk (entries_of l.links) ≡ true;
  places : places_left l.window l.walk (entries_of l.links) ≡ places_left l.window l.fn.walk (entries_of l.links);
  later : l.fn.steps ≤ l.steps;
  passed : l.steps + count_left l.walk (entries_of l.links) ≤ l.fn.steps + count_left l.fn.walk (entries_of l.links);
}

abbrev pub decreases-loop-row : goal.decreases-loop-row
decreases-loop-row l = count_left l.walk (entries_of l.links)
