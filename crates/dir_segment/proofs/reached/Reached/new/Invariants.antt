use Rattle.std.proofs.Common.{◌≡◌}
use Rattle.dir_segment.specs.Image.{unmarked}
use Rattle.dir_segment.proofs.reached.Reached.new.Given as goal

abbrev pub invariant-loop : goal.invariant-loop
invariant-loop l = l.marks.items ≡ unmarked l.counter
