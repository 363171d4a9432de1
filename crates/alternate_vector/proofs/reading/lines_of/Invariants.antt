use Rattle.std.proofs.Common.{◌≡◌, ◌-◌, [], length}
use Rattle.std.specs.List.{AllByRecursion}
use Rattle.alternate_vector.specs.Field.{IsKept, IsRising}
use Rattle.alternate_vector.specs.Lines.{fields_of}
use Rattle.alternate_vector.specs.Reading.{fields_from, last_name}
use Rattle.alternate_vector.proofs.Loops.{with_front}
use Rattle.alternate_vector.proofs.reading.lines_of.Given as goal

abbrev pub invariant-loop : goal.invariant-loop
invariant-loop l =
    (with_front (fields_of l.lines.items) (fields_from (l.count - l.counter) (last_name (fields_of l.lines.items)) l.rest) ≡ fields_from l.count [] l.bytes)
    × (length (fields_of l.lines.items) ≡ l.counter)
    × AllByRecursion IsKept (fields_of l.lines.items)
    × IsRising (fields_of l.lines.items)
