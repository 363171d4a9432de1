use Rattle.std.proofs.Common.{rules, subst}
use Rattle.device_opening.specs.Tape.{Ascend}
use Rattle.device_opening.proofs.Elements.{ascend_back, ascend_front}
use Rattle.device_opening.proofs.search.split_at_place.Goals as goal

pub returns-clause-front : goal.returns-clause-front
returns-clause-front c = ascend_front 0 c.split_at.result.0.now c.split_at.result.1.now (subst (Ascend 0) (search rules) c.requires.ascend)

pub returns-clause-back : goal.returns-clause-back
returns-clause-back c = ascend_back 0 c.split_at.result.0.now c.split_at.result.1.now (subst (Ascend 0) (search rules) c.requires.ascend)
