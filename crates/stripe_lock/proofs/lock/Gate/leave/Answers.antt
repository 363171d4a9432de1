use Rattle.std.proofs.Common.{rules, ap}
use Rattle.stripe_lock.proofs.Queueing.{gives_it, ends_it}
use Rattle.stripe_lock.proofs.lock.Gate.leave.Goals as goal

pub load-requires : goal.load-requires
load-requires g c = let h = c.requires.hand in (search rules, search rules, gives_it g.T.KeptState _ _ _ _ _ h.x (search rules) h.stage h.carried h.chronicle h.seen h.told h.sound)

pub fetch_add-served-requires : goal.fetch_add-served-requires
fetch_add-served-requires g c = (search rules, search rules, ends_it g.T.KeptState _ _ _ _ _ (ap (λ m. m.0.stage) c.load.ensures.2))
