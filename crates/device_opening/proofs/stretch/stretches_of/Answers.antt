use Rattle.device_opening.proofs.Stretches.{are_both}
use Rattle.device_opening.proofs.stretch.stretches_of.Goals as goal

pub returns : goal.returns
returns c = are_both c.args.area.now c.args.told.now c.requires.says _ _ _ _ c.content.ensures c.blocks-2.ensures c.slot.ensures.value c.bound_of-low.ensures
