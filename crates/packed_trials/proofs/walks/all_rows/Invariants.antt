use Rattle.std.proofs.Common.{◌≡◌, ◌++◌, length}
use Rattle.packed_trials.proofs.walks.all_rows.Given as goal

abbrev pub invariant-loop-row : goal.invariant-loop-row
invariant-loop-row g l = record {
  walk : g.D.StoredDirectory.walks_all l.stored l.walk;
  rows : l.rows.items ++ g.D.StoredDirectory.left l.stored l.walk ≡ g.D.StoredDirectory.left l.stored l.initial.walk;
}

abbrev pub decreases-loop-row : goal.decreases-loop-row
decreases-loop-row g l = length (g.D.StoredDirectory.left l.stored l.walk)
