-- Of the rows from the place on none is gone, and no number below is in use.
use Rattle.std.proofs.Common.{◌≡◌, ◌≤◌, ◌-◌}
use Rattle.dir_table.specs.Links.{IsLinked, AllFrom, entries_of, rows_in, room_in_links}
use Rattle.dir_table.specs.Wrap.{stored_from}
use Rattle.dir_table.proofs.links.forget.Given as goal

abbrev pub invariant-loop-number : goal.invariant-loop-number
invariant-loop-number l = record {
  linked : IsLinked l.links;
  above : AllFrom l.number (entries_of l.links);
  within : l.number ≤ l.end;
  next : l.links.next ≡ l.end;
  rows : stored_from l.low (rows_in l.links) ≡ stored_from l.low (rows_in l.fn.links);
  room : room_in_links l.fn.links ≤ room_in_links l.links;
}

abbrev pub decreases-loop-number : goal.decreases-loop-number
decreases-loop-number l = l.end - l.number
