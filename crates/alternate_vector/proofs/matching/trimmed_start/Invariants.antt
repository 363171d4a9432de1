use Rattle.std.proofs.Common.{◌≡◌, length}
use Rattle.alternate_vector.specs.Vary.{skip_blanks}
use Rattle.alternate_vector.proofs.matching.trimmed_start.Given as goal

abbrev pub invariant-loop-bytes : goal.invariant-loop-bytes
invariant-loop-bytes l = skip_blanks l.bytes ≡ skip_blanks l.fn.bytes

abbrev pub decreases-loop-bytes : goal.decreases-loop-bytes
decreases-loop-bytes l = length l.bytes
