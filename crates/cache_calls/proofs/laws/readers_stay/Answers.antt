use Rattle.cache_calls.proofs.Others.{readers_stay}
use Rattle.cache_calls.proofs.laws.readers_stay.Goals as goal

pub returns : goal.returns
returns c = readers_stay
