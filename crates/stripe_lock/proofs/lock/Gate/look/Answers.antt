use Rattle.std.proofs.Common.{rules, ap, ◌∙◌, ◌<◌, sym, subst}
use Rattle.stripe_lock.specs.declared.view.View.{View}
use Rattle.stripe_lock.specs.Rule.{weight}
use Rattle.stripe_lock.specs.Passes.{view_of}
use Rattle.stripe_lock.proofs.Looking.{sees}
use Rattle.stripe_lock.proofs.lock.Gate.look.Goals as goal

pub load-count-requires : goal.load-count-requires
load-count-requires g c = let is = ap view_of c.into_seat-seat.ensures.2 in
    (search rules, search rules, sees g.T.KeptState _ _ _ _ _ (ap (λ (v : View _). v.stage) (sym is) ∙ c.requires.rests.idle) (subst (λ (v : View _). 0 < weight v) is c.requires.rests.some_weight))
