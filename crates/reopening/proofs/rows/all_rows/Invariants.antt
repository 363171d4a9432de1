use Rattle.std.proofs.Common.{◌≡◌, ◌++◌, length}
use Rattle.packed_directory.specs.AllWalks.{IsAllWalk, rows_ahead}
use Rattle.reopening.proofs.rows.all_rows.Given as goal

abbrev pub invariant-loop-row : goal.invariant-loop-row
invariant-loop-row l = record {
  walk : IsAllWalk l.directory l.walk;
  rows : l.rows.items ++ rows_ahead l.directory l.walk ≡ rows_ahead l.directory l.initial.walk;
}

abbrev pub decreases-loop-row : goal.decreases-loop-row
decreases-loop-row l = length (rows_ahead l.directory l.walk)
