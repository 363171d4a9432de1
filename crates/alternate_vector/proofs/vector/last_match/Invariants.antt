use Rattle.std.proofs.Common.{◌≡◌, take}
use Rattle.alternate_vector.specs.Alternates.{all_stored, chosen}
use Rattle.alternate_vector.proofs.vector.last_match.Given as goal

abbrev pub invariant-loop-i : goal.invariant-loop-i
invariant-loop-i l = l.last ≡ chosen l.request (all_stored (take l.i l.alternates))
