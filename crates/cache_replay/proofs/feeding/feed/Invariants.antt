use Rattle.std.proofs.Common.{◌-◌, length}
use Rattle.cache_replay.proofs.FeedTurns.{Turned}
use Rattle.cache_replay.proofs.feeding.feed.Given as goal

abbrev pub invariant-feed : goal.invariant-feed
invariant-feed g l =
    Turned (g.S.Calls.at) (g.S.Calls.holds) (g.S.Calls.stands) l.now l.fn.cache l.cache (g.S.Calls.written l.fn.writer) (g.S.Calls.written l.writer) l.bytes l.taken

abbrev pub decreases-feed : goal.decreases-feed
decreases-feed g l = length l.bytes - l.taken
