use Rattle.std.proofs.Common.{◌≡◌, ◌++◌, length, take}
use Rattle.std.specs.Int.{w16, to_le_bytes}
use Rattle.std.specs.List.{flat_map}
use Rattle.alternate_vector.specs.Lines.{fields_of}
use Rattle.alternate_vector.specs.Spelling.{field_bytes}
use Rattle.alternate_vector.proofs.writing.write_lines.Given as goal

abbrev pub invariant-loop-line : goal.invariant-loop-line
invariant-loop-line l = l.into.items ≡ l.fn.into.items ++ (to_le_bytes w16 (length l.lines) ++ flat_map field_bytes (fields_of (take l.line-index l.lines)))
