use Rattle.reopening.proofs.Alike.{one_decides}
use Rattle.reopening.proofs.Winning.{copy_shut, wins, won}
use Rattle.reopening.proofs.laws.one_copy_decides.Goals as goal

pub returns-clause-wins : goal.returns-clause-wins
returns-clause-wins c = wins

pub returns-clause-won : goal.returns-clause-won
returns-clause-won c = won

pub returns-clause-shut : goal.returns-clause-shut
returns-clause-shut c = copy_shut

pub returns-clause-alike : goal.returns-clause-alike
returns-clause-alike c = one_decides
