use Rattle.std.proofs.Common.{◌≡◌, true, take}
use Rattle.std.specs.List.{list_all}
use Rattle.reopening.specs.Later.{states}
use Rattle.reopening.proofs.later.all_state.Given as goal

abbrev pub invariant-loop-i : goal.invariant-loop-i
invariant-loop-i l = list_all (states l.y) (take l.i l.vector) ≡ true
