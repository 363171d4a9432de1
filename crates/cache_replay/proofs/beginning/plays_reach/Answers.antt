use Rattle.cache_replay.proofs.Unharming.{plays_reached}
use Rattle.cache_replay.proofs.beginning.plays_reach.Goals as goal

pub returns : goal.returns
returns g c = plays_reached
