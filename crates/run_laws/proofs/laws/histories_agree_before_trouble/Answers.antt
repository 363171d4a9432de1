use Rattle.run_laws.proofs.Parting.{histories_agree_before_trouble}
use Rattle.run_laws.proofs.laws.histories_agree_before_trouble.Goals as goal

pub returns : goal.returns
returns c = histories_agree_before_trouble c.lines_agree_before_trouble.ensures
