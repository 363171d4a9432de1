use Rattle.cache_calls.proofs.Others.{others_stay}
use Rattle.cache_calls.proofs.laws.others_stay.Goals as goal

pub returns : goal.returns
returns c = others_stay
