use Rattle.stripe_core.specs.Stripe.{kept_in, seen_in}
use Rattle.stripe_calls.proofs.Plain.{remove_gives, remove_serves}
use Rattle.stripe_calls.proofs.Resting.{cache_keeps}
use Rattle.stripe_calls.proofs.seam.StripeCacheCalls.remove.Goals as goal

pub returns-clause-serves : goal.returns-clause-serves
returns-clause-serves g c = λ now.
    remove_serves g.R.Directory.purges (kept_in c.args.self.now.stripe) (kept_in c.remove.new.stripe)
    (seen_in c.args.self.now.stripe).device (seen_in c.remove.new.stripe).device
    c.args.key now c.remove.ensures.rests.between.accounted c.remove.result c.remove.ensures.adds c.remove.ensures.does c.remove.ensures.err

pub returns-clause-gives : goal.returns-clause-gives
returns-clause-gives g c =
    remove_gives g.R.Directory.purges (kept_in c.args.self.now.stripe) (kept_in c.remove.new.stripe)
    (seen_in c.args.self.now.stripe).device (seen_in c.remove.new.stripe).device
    c.args.key c.remove.result c.remove.ensures.adds c.remove.ensures.removes c.remove.ensures.err

pub returns-clause-keeps : goal.returns-clause-keeps
returns-clause-keeps g c = cache_keeps _ _ c.remove.ensures.rests

pub returns-clause-stands : goal.returns-clause-stands
returns-clause-stands g c = c.remove.ensures.rests.contents
