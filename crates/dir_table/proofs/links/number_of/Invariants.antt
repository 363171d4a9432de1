-- The walk goes down the numbers of the spot, and no row was met that is the one.
use Rattle.std.proofs.Common.{◌≡◌}
use Rattle.dir_table.specs.Rows.{has_row, plain_rows, spot_of}
use Rattle.dir_table.specs.Links.{row_at, rows_in, rows_of}
use Rattle.dir_table.proofs.Numbers.{Meets, up_to, height}
use Rattle.dir_table.proofs.links.number_of.Given as goal

abbrev pub invariant-loop-at : goal.invariant-loop-at
invariant-loop-at l = record {
  has : has_row l.row (plain_rows (rows_in l.links)) ≡ has_row l.row (plain_rows (rows_of (up_to (row_at l.links) l.at)));
  meets : Meets (row_at l.links) (spot_of l.row) l.at;
}

abbrev pub decreases-loop-at : goal.decreases-loop-at
decreases-loop-at l = height l.at
