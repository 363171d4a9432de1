use Rattle.reopening.proofs.Stages.{guards_stay, guards_widen, next_is_newest, run_is_newest}
use Rattle.reopening.proofs.laws.guards_pass_on.Goals as goal

pub returns-clause-stay : goal.returns-clause-stay
returns-clause-stay c = guards_stay

pub returns-clause-widen : goal.returns-clause-widen
returns-clause-widen c = guards_widen

pub returns-clause-newest : goal.returns-clause-newest
returns-clause-newest c = next_is_newest

pub returns-clause-run : goal.returns-clause-run
returns-clause-run c = run_is_newest
