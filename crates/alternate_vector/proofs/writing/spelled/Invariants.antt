use Rattle.std.proofs.Common.{◌≡◌, ◌++◌, length, take}
use Rattle.std.specs.Int.{w32, to_le_bytes}
use Rattle.std.specs.List.{flat_map}
use Rattle.alternate_vector.specs.Alternates.{all_stored}
use Rattle.alternate_vector.specs.Spelling.{alternate_bytes}
use Rattle.alternate_vector.proofs.writing.spelled.Given as goal

abbrev pub invariant-loop-alternate : goal.invariant-loop-alternate
invariant-loop-alternate l = l.bytes.items ≡ to_le_bytes w32 (length l.alternates) ++ flat_map alternate_bytes (all_stored (take l.alternate-index l.alternates))
