use Rattle.std.proofs.Common.{◌≡◌, ◌+◌, ◌*◌, ◌^◌, ◌≤◌, take}
use Rattle.alternate_vector.specs.Alternates.{all_stored, vector_size}
use Rattle.alternate_vector.proofs.sizes.vector_size.Given as goal

abbrev pub invariant-loop-alternate : goal.invariant-loop-alternate
invariant-loop-alternate l =
    (l.size ≡ vector_size (all_stored (take l.alternate-index l.alternates)))
    × (l.size ≤ 4 + 2 ^ 22 * l.alternate-index)
