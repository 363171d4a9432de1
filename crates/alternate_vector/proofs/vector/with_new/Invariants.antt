use Rattle.std.proofs.Common.{◌≡◌, ◌≤◌, take, length}
use Rattle.std.specs.Prelude.{filter, not}
use Rattle.alternate_vector.specs.Alternates.{all_stored, is_match}
use Rattle.alternate_vector.proofs.vector.with_new.Given as goal

abbrev pub invariant-loop-alternate : goal.invariant-loop-alternate
invariant-loop-alternate l =
    (all_stored l.all.items ≡ filter (λ a. not (is_match l.new.request a)) (all_stored (take l.alternate-index l.before)))
    × (length l.all.items ≤ l.alternate-index)
