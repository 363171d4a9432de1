use Rattle.std.proofs.Common.{◌+◌}
use Rattle.open_directory.proofs.nexts.+apart.Given as goal

abbrev pub decreases-apart : goal.decreases-apart
decreases-apart l = l.a + l.b
