use Rattle.std.proofs.Common.{◌≡◌, ◌+◌, ◌*◌, ◌≤◌, take}
use Rattle.alternate_vector.specs.Alternates.{fields_size}
use Rattle.alternate_vector.specs.Lines.{fields_of}
use Rattle.alternate_vector.proofs.sizes.lines_size.Given as goal

abbrev pub invariant-loop-line : goal.invariant-loop-line
invariant-loop-line l =
    (l.size ≡ fields_size (fields_of (take l.line-index l.lines)))
    × (l.size ≤ 2 + 8454 * l.line-index)
