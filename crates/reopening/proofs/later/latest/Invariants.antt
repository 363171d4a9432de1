use Rattle.std.proofs.Common.{◌≡◌, ◌++◌, length}
use Rattle.reopening.specs.Later.{latest}
use Rattle.reopening.proofs.later.latest.Given as goal

abbrev pub invariant-loop-ahead : goal.invariant-loop-ahead
invariant-loop-ahead l = l.kept.items ++ latest l.ahead.items ≡ latest l.fn.all.items

abbrev pub decreases-loop-ahead : goal.decreases-loop-ahead
decreases-loop-ahead l = length l.ahead.items
