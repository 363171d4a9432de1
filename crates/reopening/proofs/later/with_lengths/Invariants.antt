use Rattle.std.proofs.Common.{◌≡◌, ◌++◌, length}
use Rattle.reopening.specs.Later.{with_lengths}
use Rattle.reopening.proofs.later.with_lengths.Given as goal

abbrev pub invariant-loop-ahead : goal.invariant-loop-ahead
invariant-loop-ahead l = l.found ++ with_lengths l.measures l.ahead.items ≡ with_lengths l.measures l.fn.all.items

abbrev pub decreases-loop-ahead : goal.decreases-loop-ahead
decreases-loop-ahead l = length l.ahead.items
