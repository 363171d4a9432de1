use Rattle.reopening.proofs.Lasting.{lasts_on, lasts_still, openings_follow}
use Rattle.reopening.proofs.laws.it_lasts_on.Goals as goal

pub returns-clause-on : goal.returns-clause-on
returns-clause-on c = lasts_on

pub returns-clause-still : goal.returns-clause-still
returns-clause-still c = lasts_still

pub returns-clause-follow : goal.returns-clause-follow
returns-clause-follow c = openings_follow
