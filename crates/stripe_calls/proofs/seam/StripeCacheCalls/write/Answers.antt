use Rattle.stripe_core.specs.Stripe.{kept_in, seen_in, state_in}
use Rattle.stripe_calls.proofs.Feeding.{write_gives, write_goes, write_owns, write_serves}
use Rattle.stripe_calls.proofs.Resting.{cache_keeps}
use Rattle.stripe_calls.proofs.seam.StripeCacheCalls.write.Goals as goal

pub returns-clause-serves : goal.returns-clause-serves
returns-clause-serves g c =
    write_serves g.R.Directory.purges (kept_in c.args.self.now.stripe) (kept_in c.write.new.stripe)
    (seen_in c.args.self.now.stripe).device (seen_in c.write.new.stripe).device
    c.args.now c.args.writer.now c.args.bytes.now c.write.ensures.rests.between.accounted c.write.result c.write.ensures.writes c.write.ensures.does

pub returns-clause-gives : goal.returns-clause-gives
returns-clause-gives g c =
    write_gives g.R.Directory.purges (kept_in c.args.self.now.stripe) (kept_in c.write.new.stripe)
    (seen_in c.args.self.now.stripe).device (seen_in c.write.new.stripe).device
    c.args.writer.now c.args.now c.args.bytes.now c.write.result c.write.ensures.writes c.write.ensures.number c.write.ensures.does

pub returns-clause-stands : goal.returns-clause-stands
returns-clause-stands g c = c.write.ensures.rests.contents

pub returns-clause-own : goal.returns-clause-own
returns-clause-own g c =
    write_owns g.R.Directory.purges (kept_in c.args.self.now.stripe) (kept_in c.write.new.stripe)
    (seen_in c.args.self.now.stripe).device (seen_in c.write.new.stripe).device
    c.args.writer.now c.args.now c.args.bytes.now c.write.result c.write.ensures.does

pub returns-clause-writer : goal.returns-clause-writer
returns-clause-writer g c =
    write_goes (state_in c.args.self.now.stripe) (state_in c.write.new.stripe) c.args.writer.now c.write.new.writer c.args.bytes.now
    c.write.result c.write.ensures.writer c.write.ensures.gathers c.write.ensures.same

pub returns-clause-keeps : goal.returns-clause-keeps
returns-clause-keeps g c = cache_keeps _ _ c.write.ensures.rests
