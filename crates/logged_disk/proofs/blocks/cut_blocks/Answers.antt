use Rattle.logged_disk.proofs.Writing.{none_cut, cut_more}
use Rattle.logged_disk.proofs.blocks.cut_blocks.Goals as goal

pub loop-block-init : goal.loop-block-init
loop-block-init c = none_cut c.args.choice c.args.written.now c.args.pending.now c.requires.stored

pub loop-block-preserved : goal.loop-block-preserved
loop-block-preserved c =
    let step = c.cut_block.ensures in
    cut_more c.args.choice c.args.written.now c.loop-block.written c.cut_block.new.written c.args.pending.now c.loop-block.block c.loop-block.invariant step.seen step.stored step.room
