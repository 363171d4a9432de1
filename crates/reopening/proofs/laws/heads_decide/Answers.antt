use Rattle.reopening.proofs.Heads.{first_blocks_decide, heads_decide, heads_tell}
use Rattle.reopening.proofs.laws.heads_decide.Goals as goal

pub returns-clause-none : goal.returns-clause-none
returns-clause-none c = heads_decide

pub returns-clause-first : goal.returns-clause-first
returns-clause-first c = first_blocks_decide

pub returns-clause-blocks : goal.returns-clause-blocks
returns-clause-blocks c = heads_tell
