use Rattle.stripe_core.specs.Stripe.{kept_in, seen_in}
use Rattle.stripe_calls.proofs.Openings.{open_gives, open_owns, open_serves}
use Rattle.stripe_calls.proofs.Resting.{cache_keeps}
use Rattle.stripe_calls.proofs.seam.StripeCacheCalls.open_write.Goals as goal

pub returns-clause-serves : goal.returns-clause-serves
returns-clause-serves g c = λ now.
    open_serves g.R.Directory.purges (kept_in c.args.self.now.stripe) (kept_in c.open_write.new.stripe)
    (seen_in c.args.self.now.stripe).device (seen_in c.open_write.new.stripe).device
    c.args.actor c.args.key c.args.request c.args.response c.args.pin now c.open_write.ensures.rests.between.accounted
    c.open_write.result c.open_write.ensures.adds c.open_write.ensures.err c.open_write.ensures.does

pub returns-clause-gives : goal.returns-clause-gives
returns-clause-gives g c =
    open_gives g.R.Directory.purges (kept_in c.args.self.now.stripe) (kept_in c.open_write.new.stripe)
    (seen_in c.args.self.now.stripe).device (seen_in c.open_write.new.stripe).device
    c.args.actor c.args.key c.args.request c.args.response c.args.pin
    c.open_write.result c.open_write.ensures.adds c.open_write.ensures.err c.open_write.ensures.does
    c.open_write.ensures.writer c.open_write.ensures.empty c.open_write.ensures.unsealed c.open_write.ensures.still

pub returns-clause-own : goal.returns-clause-own
returns-clause-own g c =
    open_owns g.R.Directory.purges (kept_in c.args.self.now.stripe) (kept_in c.open_write.new.stripe)
    (seen_in c.args.self.now.stripe).device (seen_in c.open_write.new.stripe).device
    c.args.actor c.args.key c.args.request c.args.response c.args.pin
    c.open_write.result c.open_write.ensures.adds c.open_write.ensures.err

pub returns-clause-keeps : goal.returns-clause-keeps
returns-clause-keeps g c = cache_keeps _ _ c.open_write.ensures.rests

pub returns-clause-stands : goal.returns-clause-stands
returns-clause-stands g c = c.open_write.ensures.rests.contents
