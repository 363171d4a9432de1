use Rattle.std.proofs.Common.{◌≡◌, length}
use Rattle.dir_segment.proofs.purge.PurgeList.new.Given as goal

abbrev pub invariant-loop : goal.invariant-loop
invariant-loop l = length l.marks.items ≡ l.counter
