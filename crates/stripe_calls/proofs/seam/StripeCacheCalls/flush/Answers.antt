use Rattle.stripe_core.specs.Stripe.{kept_in, seen_in}
use Rattle.stripe_core.proofs.Continuing.{continues_rests}
use Rattle.stripe_calls.proofs.Plain.{flush_gives, flush_owns, flush_quiet, flush_serves}
use Rattle.stripe_calls.proofs.Resting.{cache_keeps}
use Rattle.stripe_calls.proofs.seam.StripeCacheCalls.flush.Goals as goal

pub returns-clause-serves : goal.returns-clause-serves
returns-clause-serves g c =
    flush_serves g.R.Directory.purges (kept_in c.args.self.now.stripe) (kept_in c.flush.new.self)
    (seen_in c.args.self.now.stripe).device (seen_in c.flush.new.self).device
    c.args.now c.flush.ensures.continues.between.accounted c.flush.result c.flush.ensures.does

pub returns-clause-gives : goal.returns-clause-gives
returns-clause-gives g c =
    flush_gives g.R.Directory.purges (kept_in c.args.self.now.stripe) (kept_in c.flush.new.self)
    (seen_in c.args.self.now.stripe).device (seen_in c.flush.new.self).device
    c.args.now c.flush.result c.flush.ensures.does c.flush.ensures.tells c.flush.ensures.room c.flush.ensures.stops c.flush.ensures.untouched
    c.flush.ensures.still c.flush.ensures.ended

pub returns-clause-own : goal.returns-clause-own
returns-clause-own g c =
    flush_owns g.R.Directory.purges (kept_in c.args.self.now.stripe) (kept_in c.flush.new.self)
    (seen_in c.args.self.now.stripe).device (seen_in c.flush.new.self).device
    c.args.now c.flush.result c.flush.ensures.does

pub returns-clause-keeps : goal.returns-clause-keeps
returns-clause-keeps g c = cache_keeps _ _ (continues_rests c.args.self.now.stripe c.flush.new.self c.flush.ensures.continues
    (flush_quiet g.R.Directory.purges (kept_in c.args.self.now.stripe) (kept_in c.flush.new.self)
    (seen_in c.args.self.now.stripe).device (seen_in c.flush.new.self).device
    c.args.now c.flush.result c.flush.ensures.does c.requires.quiet))
