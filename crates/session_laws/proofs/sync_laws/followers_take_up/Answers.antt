use Rattle.session_laws.proofs.Syncs.{follower_allows_sync, follower_has_sync}
use Rattle.session_laws.proofs.sync_laws.followers_take_up.Goals as goal

pub returns-clause-has : goal.returns-clause-has
returns-clause-has c = follower_has_sync

pub returns-clause-allows : goal.returns-clause-allows
returns-clause-allows c = follower_allows_sync
