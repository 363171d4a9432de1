use Rattle.put_laws.proofs.Bodies.{closed_put_stays}
use Rattle.put_laws.proofs.laws.closed_put_stays.Goals as goal

pub returns : goal.returns
returns c = closed_put_stays c.legal_is_kept.ensures c.put_is_measured.ensures c.numbers_follow.ensures
