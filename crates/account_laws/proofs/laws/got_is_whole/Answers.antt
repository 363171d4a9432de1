use Rattle.account_laws.proofs.Whole.{got_is_whole}
use Rattle.account_laws.proofs.laws.got_is_whole.Goals as goal

pub returns : goal.returns
returns c = got_is_whole c.got_is_put.ensures c.hit_is_asked.ensures c.length_is_told.ensures
