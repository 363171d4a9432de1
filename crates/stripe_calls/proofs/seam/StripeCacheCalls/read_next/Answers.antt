use Rattle.stripe_core.specs.Stripe.{kept_in, seen_in, state_in}
use Rattle.stripe_read.specs.Readers.{reading_as}
use Rattle.stripe_read.proofs.Owning.{owns_read}
use Rattle.stripe_calls.specs.Seen.{at_of_stripe}
use Rattle.stripe_calls.proofs.Reading.{next_exact, next_gives, next_goes, next_serves, next_unharmed}
use Rattle.stripe_calls.proofs.Resting.{cache_goes}
use Rattle.stripe_calls.proofs.seam.StripeCacheCalls.read_next.Goals as goal

pub returns-clause-serves : goal.returns-clause-serves
returns-clause-serves g c = λ now.
    next_serves g.R.Directory.purges (kept_in c.args.self.now.stripe) (kept_in c.read_next.new.stripe)
    (seen_in c.args.self.now.stripe) (seen_in c.read_next.new.stripe)
    c.args.reader.now now c.read_next.new.into c.read_next.ensures.proceeds.accounted c.read_next.result c.read_next.ensures.adds c.read_next.ensures.reads c.read_next.ensures.err

pub returns-clause-gives : goal.returns-clause-gives
returns-clause-gives g c =
    next_gives g.R.Directory.purges (kept_in c.args.self.now.stripe) (kept_in c.read_next.new.stripe)
    (seen_in c.args.self.now.stripe) (seen_in c.read_next.new.stripe)
    c.args.reader.now c.read_next.new.into c.read_next.result c.read_next.ensures.adds c.read_next.ensures.reads c.read_next.ensures.err

pub returns-clause-exact : goal.returns-clause-exact
returns-clause-exact g c =
    next_exact g.R.Directory.purges (kept_in c.args.self.now.stripe) (kept_in c.read_next.new.stripe)
    (seen_in c.args.self.now.stripe) (seen_in c.read_next.new.stripe)
    c.args.reader.now c.read_next.new.into c.read_next.result c.read_next.ensures.reads

pub returns-clause-keeps : goal.returns-clause-keeps
returns-clause-keeps g c = cache_goes _ _ c.read_next.ensures.resting c.read_next.ensures.proceeds

pub returns-clause-unharmed : goal.returns-clause-unharmed
returns-clause-unharmed g c =
    next_unharmed g.R.Directory.purges (kept_in c.args.self.now.stripe) (kept_in c.read_next.new.stripe)
    (seen_in c.args.self.now.stripe) (seen_in c.read_next.new.stripe)
    c.args.reader.now c.read_next.ensures.unharmed

pub returns-clause-own : goal.returns-clause-own
returns-clause-own g c =
    owns_read (at_of_stripe c.args.self.now.stripe) (at_of_stripe c.read_next.new.stripe) (reading_as c.args.reader.now) c.read_next.result
    c.read_next.ensures.adds c.read_next.ensures.err

pub returns-clause-stands : goal.returns-clause-stands
returns-clause-stands g c = c.read_next.ensures.proceeds.contents

pub returns-clause-reader : goal.returns-clause-reader
returns-clause-reader g c =
    next_goes (state_in c.args.self.now.stripe) (state_in c.read_next.new.stripe) c.args.reader.now c.read_next.new.reader
    c.read_next.result c.read_next.ensures.goes c.read_next.ensures.same c.read_next.ensures.reader c.read_next.ensures.keeps
