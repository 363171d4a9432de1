use Rattle.logged_disk.proofs.Writing.{HasCut}
use Rattle.logged_disk.proofs.blocks.cut_blocks.Given as goal

abbrev pub invariant-loop-block : goal.invariant-loop-block
invariant-loop-block l = HasCut l.choice l.initial.written l.written l.pending l.block
