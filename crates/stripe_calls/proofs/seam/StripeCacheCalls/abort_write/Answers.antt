use Rattle.stripe_core.specs.Stripe.{kept_in, seen_in}
use Rattle.stripe_calls.proofs.Openings.{abort_gives, abort_owns, abort_serves}
use Rattle.stripe_calls.proofs.Resting.{cache_keeps}
use Rattle.stripe_calls.proofs.seam.StripeCacheCalls.abort_write.Goals as goal

pub returns-clause-serves : goal.returns-clause-serves
returns-clause-serves g c = λ now.
    abort_serves g.R.Directory.purges (kept_in c.args.self.now.stripe) (kept_in c.abort_write.new.stripe)
    (seen_in c.args.self.now.stripe).device (seen_in c.abort_write.new.stripe).device
    c.args.writer.now now c.abort_write.ensures.rests.between.accounted c.abort_write.result c.abort_write.ensures.adds c.abort_write.ensures.aborts c.abort_write.ensures.does

pub returns-clause-gives : goal.returns-clause-gives
returns-clause-gives g c =
    abort_gives g.R.Directory.purges (kept_in c.args.self.now.stripe) (kept_in c.abort_write.new.stripe)
    (seen_in c.args.self.now.stripe).device (seen_in c.abort_write.new.stripe).device
    c.args.writer.now c.abort_write.result c.abort_write.ensures.adds c.abort_write.ensures.aborts

pub returns-clause-own : goal.returns-clause-own
returns-clause-own g c =
    abort_owns g.R.Directory.purges (kept_in c.args.self.now.stripe) (kept_in c.abort_write.new.stripe)
    (seen_in c.args.self.now.stripe).device (seen_in c.abort_write.new.stripe).device
    c.args.writer.now c.abort_write.result c.abort_write.ensures.adds c.abort_write.ensures.aborts

pub returns-clause-writer : goal.returns-clause-writer
returns-clause-writer g c = c.abort_write.ensures.writer

pub returns-clause-keeps : goal.returns-clause-keeps
returns-clause-keeps g c = cache_keeps _ _ c.abort_write.ensures.rests

pub returns-clause-stands : goal.returns-clause-stands
returns-clause-stands g c = c.abort_write.ensures.rests.contents

pub returns-clause-same : goal.returns-clause-same
returns-clause-same g c = c.abort_write.ensures.same
