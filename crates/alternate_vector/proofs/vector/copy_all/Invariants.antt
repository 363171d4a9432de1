use Rattle.std.proofs.Common.{◌≡◌, take}
use Rattle.alternate_vector.specs.Alternates.{all_stored}
use Rattle.alternate_vector.proofs.vector.copy_all.Given as goal

abbrev pub invariant-loop-alternate : goal.invariant-loop-alternate
invariant-loop-alternate l = all_stored l.copies.items ≡ all_stored (take l.alternate-index l.alternates)
