use Rattle.std.proofs.Common.{rules, ◌≡◌, ◌%◌, ap, sym, ◌∙◌, subst, List, ◌∷◌, []}
use Rattle.stripe_lock.specs.declared.view.View.{View}
use Rattle.stripe_lock.specs.Rule.{outside, weight}
use Rattle.stripe_lock.specs.Steps.{at_stage}
use Rattle.stripe_lock.specs.Passes.{view_of, PassRests}
use Rattle.stripe_lock.specs.Working.{InHand, published}
use Rattle.stripe_lock.proofs.Turning.{rests, turned}
use Rattle.stripe_lock.proofs.lock.Gate.turn.Goals as goal

-- the state was in hand
hand : (g : _) (c : goal.After-into_badge g) → InHand g.T.KeptState (view_of c.args.badge.views) c.enter.new.seat.me c.enter.ensures.hand.0
hand g c = subst (λ (v : View _). InHand g.T.KeptState v c.enter.new.seat.me c.enter.ensures.hand.0) (sym (ap view_of c.into_seat-seat.ensures.2)) c.enter.ensures.hand.1

-- the view behind the turn
behind : (g : _) (c : goal.After-into_badge g) → view_of c.into_badge.result.views ≡ at_stage outside (published (g.T.KeptState.turns (c.in-Ok.ensures.done c.enter.ensures.hand.0 c.enter.ensures.hand.1.carried).0) c.in-Ok.field-0.floor c.enter.new.seat.me.0)
behind g c = let h = c.enter.ensures.hand in let d = c.in-Ok.ensures.done h.0 h.1.carried in
    ap view_of c.into_badge.ensures.2 ∙ (ap (λ m. m.0) c.leave.ensures.idle ∙ (ap (at_stage outside) (c.publish.ensures.view d.0 d.1)
    ∙ ap (λ (z : View _). at_stage outside (published (g.T.KeptState.turns d.0) c.in-Ok.field-0.floor z)) c.work.ensures.seat.2))

pub returns-in-Ok-clause-rests : goal.returns-in-Ok-clause-rests
returns-in-Ok-clause-rests g c = let v = view_of c.args.badge.views in let h = c.enter.ensures.hand in let d = c.in-Ok.ensures.done h.0 h.1.carried in
    let r = rests g.T.KeptState (g.J.Job.number c.args.job.now) (g.J.Job.fits c.args.job.now c.work.new.job) c.args.number v c.enter.new.seat.me c.work.new.seat.me h.0 d.0 c.in-Ok.field-0.answer c.in-Ok.field-0.count c.in-Ok.field-0.floor (view_of c.into_badge.result.views)
    (hand g c) (behind g c) c.requires.rests.number_is c.requires.rests.some_weight in
    let views = c.into_badge.ensures.2 in
    subst (λ (vs : List (View _)). PassRests c.args.number (weight v % 4294967296) vs) (ap (λ (w : View _). w ∷ []) (ap view_of views) ∙ sym views) r

pub returns-in-Ok-clause-done : goal.returns-in-Ok-clause-done
returns-in-Ok-clause-done g c = let v = view_of c.args.badge.views in let h = c.enter.ensures.hand in let d = c.in-Ok.ensures.done h.0 h.1.carried in
    turned g.T.KeptState (g.J.Job.number c.args.job.now) (g.J.Job.fits c.args.job.now c.work.new.job) c.args.number v c.enter.new.seat.me c.work.new.seat.me h.0 d.0 c.in-Ok.field-0.answer c.in-Ok.field-0.count c.in-Ok.field-0.floor (view_of c.into_badge.result.views)
    c.args.badge.table_id c.into_badge.result.table_id (hand g c) (behind g c) (search rules) c.requires.rests.number_is c.requires.rests.some_weight d.2
