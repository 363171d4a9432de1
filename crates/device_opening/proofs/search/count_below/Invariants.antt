use Rattle.std.proofs.Common.{◌≤◌, ◌-◌, length, take}
use Rattle.device_opening.specs.Tape.{StandBelow}
use Rattle.device_opening.proofs.search.count_below.Given as goal

abbrev pub invariant-loop-count : goal.invariant-loop-count
invariant-loop-count l = (l.count ≤ length l.rows) × StandBelow l.place (take l.count l.rows)

abbrev pub decreases-loop-count : goal.decreases-loop-count
decreases-loop-count l = length l.rows - l.count
