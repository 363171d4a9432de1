use Rattle.logged_disk.proofs.Writing.{HasPut}
use Rattle.logged_disk.proofs.blocks.write_blocks.Given as goal

abbrev pub invariant-loop-k : goal.invariant-loop-k
invariant-loop-k l = HasPut l.initial.written l.written l.initial.pending l.pending l.first l.k l.bytes
