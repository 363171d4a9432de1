use Rattle.worked_runs.proofs.Whole.{no_count_is_told}
use Rattle.worked_runs.proofs.laws.no_count_is_told.Goals as goal

pub returns : goal.returns
returns c = no_count_is_told c.counts_are_reached.ensures
