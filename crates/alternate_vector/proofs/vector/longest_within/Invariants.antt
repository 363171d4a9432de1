use Rattle.std.proofs.Common.{◌≡◌, ◌≤◌, length}
use Rattle.alternate_vector.specs.Alternates.{all_stored, longest_within}
use Rattle.alternate_vector.proofs.vector.longest_within.Given as goal

abbrev pub invariant-drops : goal.invariant-drops
invariant-drops l =
    (longest_within l.most l.bytes (all_stored l.all.items) ≡ longest_within l.most l.bytes (all_stored l.fn.all.items))
    × (length l.all.items ≤ 17)

abbrev pub decreases-drops : goal.decreases-drops
decreases-drops l = length l.all.items
