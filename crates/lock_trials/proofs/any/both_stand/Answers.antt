use Rattle.stripe_lock.proofs.Histories.{prefix_more}
use Rattle.lock_trials.proofs.Standing.{stands}
use Rattle.lock_trials.proofs.any.both_stand.Goals as goal

pub returns-in-Ok-close-clause-second : goal.returns-in-Ok-close-clause-second
returns-in-Ok-close-clause-second g c = let t = rw c.in-Ok-y.is at c.once_each-one.ensures.second.1 in
    stands g.T.KeptState _ _ _ _ _ _ _ t (prefix_more _ _ _ c.join.ensures.seen.1 c.in-Ok-close.ensures.ends.seen)
