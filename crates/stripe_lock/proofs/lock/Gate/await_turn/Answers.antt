use Rattle.std.proofs.Common.{rules, ap, ◌∙◌}
use Rattle.stripe_lock.proofs.Queueing.{looks}
use Rattle.stripe_lock.proofs.lock.Gate.await_turn.Goals as goal

pub load-serving-requires : goal.load-serving-requires
load-serving-requires g c = (search rules, search rules, looks g.T.KeptState _ _ _ _ _ (ap (λ m. m.0.stage) c.loop.invariant.2 ∙ c.requires.waits.0))
