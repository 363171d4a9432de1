use Rattle.account_laws.proofs.Whole.{hit_is_whole}
use Rattle.account_laws.proofs.laws.hit_is_whole.Goals as goal

pub returns : goal.returns
returns c = hit_is_whole c.hit_is_asked.ensures c.length_is_told.ensures
