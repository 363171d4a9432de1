use Rattle.std.proofs.Common.{◌≡◌}
use Rattle.lock_trials.proofs.many.tick_on.Given as goal

abbrev pub invariant-loop-job : goal.invariant-loop-job
invariant-loop-job g l = l.pass.lock ≡ l.lock.lock
