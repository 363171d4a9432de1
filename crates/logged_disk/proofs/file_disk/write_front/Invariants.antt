use Rattle.std.proofs.Common.{◌≤◌, length}
use Rattle.logged_disk.proofs.file_disk.write_front.Given as goal

-- no more was taken than there is
abbrev pub invariant-loop : goal.invariant-loop
invariant-loop l = l.taken ≤ length l.bytes
