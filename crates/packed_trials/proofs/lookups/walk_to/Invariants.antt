use Rattle.std.proofs.Common.{◌+◌, ◌≤◌, length}
use Rattle.packed_trials.proofs.lookups.walk_to.Given as goal

abbrev pub invariant-loop-place : goal.invariant-loop-place
invariant-loop-place g l = record {
  walk : g.D.Directory.walks l.directory l.walk;
  few : l.steps + g.D.Directory.ahead l.directory l.walk ≤ g.D.Directory.ahead l.directory l.initial.walk;
}

abbrev pub decreases-loop-place : goal.decreases-loop-place
decreases-loop-place g l = length (g.D.Directory.rest l.directory l.walk)
