use Rattle.std.proofs.Common.{rules, ap, ◌∙◌}
use Rattle.stripe_lock.specs.Rule.{called}
use Rattle.stripe_lock.specs.Steps.{at_stage}
use Rattle.stripe_lock.proofs.Queueing.{draws, takes_it}
use Rattle.stripe_lock.proofs.Turning.{in_hand}
use Rattle.stripe_lock.proofs.lock.Gate.enter.Goals as goal

pub fetch_add-ticket-requires : goal.fetch_add-ticket-requires
fetch_add-ticket-requires g c = (search rules, search rules, draws g.T.KeptState _ _ _ _ _ c.requires.idle.0 c.requires.idle.2)

pub load-requires : goal.load-requires
load-requires g c = let drew = c.fetch_add-ticket.ensures.2 in let turn = c.await_turn.ensures.turn in
    (search rules, search rules, takes_it g.T.KeptState _ _ _ _ _ (ap (λ m. m.0.stage) turn) (ap (λ m. m.1) turn ∙ (drew.3 ∙ c.requires.idle.1)))

pub returns-clause-hand : goal.returns-clause-hand
returns-clause-hand g c = let drew = c.fetch_add-ticket.ensures.2 in
    in_hand g.T.KeptState c.args.seat.now.me.0 c.await_turn.new.seat.me.0 drew.0 c.load.new.seat.me (ap (λ m. m.0) c.await_turn.ensures.turn ∙ ap (at_stage called) drew.2) c.load.ensures.2
