use Rattle.std.proofs.Common.{rules, ap, ◌∙◌, ◌<◌, sym, subst}
use Rattle.stripe_lock.specs.declared.view.View.{View}
use Rattle.stripe_lock.specs.Rule.{weight}
use Rattle.stripe_lock.specs.Passes.{view_of}
use Rattle.stripe_lock.proofs.Looking.{lowers}
use Rattle.stripe_lock.proofs.lock.Gate.look_down.Goals as goal

pub load-floor-requires : goal.load-floor-requires
load-floor-requires g c = let is = ap view_of c.into_seat-seat.ensures.2 in
    (search rules, search rules, lowers g.T.KeptState _ _ _ _ _ (ap (λ (v : View _). v.stage) (sym is) ∙ c.requires.rests.idle) (subst (λ (v : View _). 0 < weight v) is c.requires.rests.some_weight))
