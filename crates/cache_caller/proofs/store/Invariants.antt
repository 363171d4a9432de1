use Rattle.std.proofs.Common.{length, ◌-◌}
use Rattle.cache_caller.proofs.Fed.{Fed}
use Rattle.cache_caller.proofs.store.Given as goal

abbrev pub invariant-feed : goal.invariant-feed
invariant-feed g l = Fed (g.S.Calls.at) (g.S.Calls.holds) l.fn.cache l.cache (g.S.Calls.written l.writer) l.body l.taken

abbrev pub decreases-feed : goal.decreases-feed
decreases-feed g l = length l.body - l.taken
