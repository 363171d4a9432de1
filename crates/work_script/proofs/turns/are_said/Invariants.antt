-- Each row so far was answered.
use Rattle.std.proofs.Common.{take}
use Rattle.work_script.specs.Turns.{AreSaid}
use Rattle.work_script.proofs.turns.are_said.Given as goal

abbrev pub invariant-loop-place : goal.invariant-loop-place
invariant-loop-place l = AreSaid (take l.place l.rows)
