use Rattle.cache_calls.proofs.Others.{writers_stay}
use Rattle.cache_calls.proofs.laws.writers_stay.Goals as goal

pub returns : goal.returns
returns c = writers_stay
