use Rattle.std.proofs.Common.{◌≡◌, ◌-◌, length}
use Rattle.std.specs.List.{AllByRecursion}
use Rattle.alternate_vector.specs.Alternates.{IsStored, all_stored}
use Rattle.alternate_vector.specs.Reading.{alternates_at}
use Rattle.alternate_vector.proofs.Loops.{with_front}
use Rattle.alternate_vector.proofs.reading.alternates_of.Given as goal

abbrev pub invariant-loop : goal.invariant-loop
invariant-loop l =
    (with_front (all_stored l.alternates.items) (alternates_at (l.count - l.counter) l.rest) ≡ alternates_at l.count l.bytes)
    × (length (all_stored l.alternates.items) ≡ l.counter)
    × AllByRecursion IsStored (all_stored l.alternates.items)
