use Rattle.device_opening.proofs.Elements.{from_one}
use Rattle.device_opening.proofs.search.count_below.Goals as goal

pub returns-else-rows-count-clause-above : goal.returns-else-rows-count-clause-above
returns-else-rows-count-clause-above c = from_one c.args.rows.now c.loop-count.count 0 c.args.place _ c.requires.ascend c.loop-count-test.true c.if-rows-count.false
