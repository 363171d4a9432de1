use Rattle.std.proofs.Common.{◌≡◌, take}
use Rattle.alternate_vector.specs.Lines.{fields_of}
use Rattle.alternate_vector.proofs.fields.copy_lines.Given as goal

abbrev pub invariant-loop-line : goal.invariant-loop-line
invariant-loop-line l = fields_of l.copies.items ≡ fields_of (take l.line-index l.lines)
