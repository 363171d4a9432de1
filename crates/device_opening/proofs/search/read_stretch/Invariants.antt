use Rattle.std.proofs.Common.{length}
use Rattle.device_opening.proofs.Searching.{IsReached}
use Rattle.device_opening.proofs.search.read_stretch.Given as goal

abbrev pub invariant-each : goal.invariant-each
invariant-each g l = IsReached l.stretch l.rows l.rest l.search (g.D.Disk.state l.fn.disk) (g.D.Disk.state l.disk)

abbrev pub decreases-each : goal.decreases-each
decreases-each g l = length l.rest
