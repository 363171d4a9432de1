use Rattle.std.proofs.Common.{◌≡◌, true, take}
use Rattle.std.specs.List.{list_all}
use Rattle.reopening.specs.Tests.{is_begun}
use Rattle.reopening.proofs.standing.lists_begun.Given as goal

abbrev pub invariant-loop-i : goal.invariant-loop-i
invariant-loop-i l = list_all (λ x. is_begun l.next x.put) (take l.i l.vector) ≡ true
