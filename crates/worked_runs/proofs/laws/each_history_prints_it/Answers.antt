use Rattle.worked_runs.proofs.Whole.{history_prints}
use Rattle.worked_runs.proofs.laws.each_history_prints_it.Goals as goal

pub returns : goal.returns
returns c = history_prints c.histories_agree_before_trouble.ensures
