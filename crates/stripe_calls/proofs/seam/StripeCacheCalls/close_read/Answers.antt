use Rattle.stripe_core.specs.Stripe.{kept_in, seen_in}
use Rattle.stripe_read.proofs.Owning.{owns_close}
use Rattle.stripe_calls.specs.Seen.{at_of_stripe}
use Rattle.stripe_calls.proofs.Looking.{close_reader_gives, close_reader_serves}
use Rattle.stripe_calls.proofs.Resting.{cache_keeps}
use Rattle.stripe_calls.proofs.seam.StripeCacheCalls.close_read.Goals as goal

pub returns-clause-serves : goal.returns-clause-serves
returns-clause-serves g c = λ now.
    close_reader_serves g.R.Directory.purges (kept_in c.args.self.now.stripe) (kept_in c.close_read.new.stripe)
    (seen_in c.args.self.now.stripe).device (seen_in c.close_read.new.stripe).device
    c.args.reader now c.close_read.ensures.rests.between.accounted c.close_read.result c.close_read.ensures.adds c.close_read.ensures.does c.close_read.ensures.err

pub returns-clause-gives : goal.returns-clause-gives
returns-clause-gives g c =
    close_reader_gives g.R.Directory.purges (kept_in c.args.self.now.stripe) (kept_in c.close_read.new.stripe)
    (seen_in c.args.self.now.stripe).device (seen_in c.close_read.new.stripe).device
    c.args.reader c.close_read.result c.close_read.ensures.adds c.close_read.ensures.err c.close_read.ensures.back

pub returns-clause-own : goal.returns-clause-own
returns-clause-own g c =
    owns_close (at_of_stripe c.args.self.now.stripe) (at_of_stripe c.close_read.new.stripe) c.args.reader.reader c.close_read.result
    c.close_read.ensures.adds c.close_read.ensures.err

pub returns-clause-stands : goal.returns-clause-stands
returns-clause-stands g c = c.close_read.ensures.rests.contents

pub returns-clause-keeps : goal.returns-clause-keeps
returns-clause-keeps g c = cache_keeps _ _ c.close_read.ensures.rests
