use Rattle.std.proofs.Common.{◌≡◌}
use Rattle.logged_disk.proofs.Counted.{IsCounted}
use Rattle.logged_disk.proofs.switch.count_down.Given as goal

abbrev pub invariant-loop-i : goal.invariant-loop-i
invariant-loop-i l = IsCounted l.initial.armed.items l.armed.items l.i l.kept l.due × (l.armed.cap ≡ l.initial.armed.cap)
