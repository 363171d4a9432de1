use Rattle.stripe_core.specs.Stripe.{kept_in, seen_in}
use Rattle.stripe_read.proofs.Owning.{owns_open}
use Rattle.stripe_calls.specs.Seen.{at_of_stripe}
use Rattle.stripe_calls.proofs.Looking.{look_gives, look_serves}
use Rattle.stripe_calls.proofs.Resting.{cache_keeps}
use Rattle.stripe_calls.proofs.seam.StripeCacheCalls.open_read.Goals as goal

pub returns-clause-serves : goal.returns-clause-serves
returns-clause-serves g c = λ now.
    look_serves g.R.Directory.purges (kept_in c.args.self.now.stripe) (kept_in c.open_read.new.stripe)
    (seen_in c.args.self.now.stripe).device (seen_in c.open_read.new.stripe).device
    c.args.actor c.args.key c.args.request now c.open_read.ensures.rests.between.accounted c.open_read.result c.open_read.ensures.adds c.open_read.ensures.opens c.open_read.ensures.err

pub returns-clause-gives : goal.returns-clause-gives
returns-clause-gives g c =
    look_gives g.R.Directory.purges (kept_in c.args.self.now.stripe) (kept_in c.open_read.new.stripe)
    (seen_in c.args.self.now.stripe).device (seen_in c.open_read.new.stripe).device
    c.args.actor c.args.key c.args.request c.open_read.result c.open_read.ensures.adds c.open_read.ensures.opens c.open_read.ensures.reader c.open_read.ensures.tells c.open_read.ensures.err

pub returns-clause-own : goal.returns-clause-own
returns-clause-own g c =
    owns_open (at_of_stripe c.args.self.now.stripe) (at_of_stripe c.open_read.new.stripe) c.args.actor c.args.key c.args.request
    c.open_read.result c.open_read.ensures.adds c.open_read.ensures.err

pub returns-clause-stands : goal.returns-clause-stands
returns-clause-stands g c = c.open_read.ensures.rests.contents

pub returns-clause-keeps : goal.returns-clause-keeps
returns-clause-keeps g c = cache_keeps _ _ c.open_read.ensures.rests
