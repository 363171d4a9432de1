use Rattle.std.proofs.Common.{refl, sym, ◌∙◌}
use Rattle.stripe_core.specs.Stripe.{kept_in, seen_in, state_in}
use Rattle.cache_calls.proofs.Keeping.{keeps_still}
use Rattle.stripe_calls.proofs.Closing.{close_gives, close_serves, nothing_closed, not_open_serves, none_added, writer_closes, writer_stays}
use Rattle.stripe_calls.proofs.Resting.{cache_keeps}
use Rattle.stripe_calls.proofs.Words.{put_adds}
use Rattle.stripe_calls.proofs.seam.StripeCacheCalls.close_write.Goals as goal

pub returns-then-not-is_open-clause-serves : goal.returns-then-not-is_open-clause-serves
returns-then-not-is_open-clause-serves g c =
    let k = kept_in c.args.self.now.stripe in
    let d = (seen_in c.args.self.now.stripe).device in
    not_open_serves g.R.Directory.purges k k d d c.args.now c.args.writer.now (nothing_closed k d) (sym c.is_open.ensures ∙ c.if-not-is_open.true) refl

pub returns-then-not-is_open-clause-gives : goal.returns-then-not-is_open-clause-gives
returns-then-not-is_open-clause-gives g c = (sym c.is_open.ensures ∙ c.if-not-is_open.true, refl)

pub returns-then-not-is_open-clause-own : goal.returns-then-not-is_open-clause-own
returns-then-not-is_open-clause-own g c = none_added _ _

pub returns-then-not-is_open-clause-writer : goal.returns-then-not-is_open-clause-writer
returns-then-not-is_open-clause-writer g c =
    let s = state_in c.args.self.now.stripe in
    writer_stays s c.args.writer.now c.requires.writer

pub returns-then-not-is_open-clause-keeps : goal.returns-then-not-is_open-clause-keeps
returns-then-not-is_open-clause-keeps g c = keeps_still c.args.self.now c.requires.holds

pub returns-clause-serves : goal.returns-clause-serves
returns-clause-serves g c =
    close_serves g.R.Directory.purges (kept_in c.args.self.now.stripe) (kept_in c.close_write.new.stripe)
    (seen_in c.args.self.now.stripe).device (seen_in c.close_write.new.stripe).device
    c.args.now c.args.writer.now c.close_write.ensures.rests.between.accounted c.close_write.result
    c.requires.writer (sym c.is_open.ensures ∙ c.if-not-is_open.false)
    c.close_write.ensures.closes c.close_write.ensures.does

pub returns-clause-gives : goal.returns-clause-gives
returns-clause-gives g c =
    close_gives g.R.Directory.purges (kept_in c.args.self.now.stripe) (kept_in c.close_write.new.stripe)
    (seen_in c.args.self.now.stripe).device (seen_in c.close_write.new.stripe).device
    c.args.writer.now c.close_write.result (sym c.is_open.ensures ∙ c.if-not-is_open.false) c.close_write.ensures.closes c.close_write.ensures.counts
    c.close_write.ensures.recorded

pub returns-clause-stands : goal.returns-clause-stands
returns-clause-stands g c = c.close_write.ensures.rests.contents

pub returns-clause-own : goal.returns-clause-own
returns-clause-own g c = put_adds c.args.writer.now.put c.close_write.ensures.own

pub returns-clause-writer : goal.returns-clause-writer
returns-clause-writer g c =
    writer_closes (state_in c.close_write.new.stripe) c.args.writer.now c.close_write.new.writer c.close_write.result
    c.close_write.ensures.writer c.close_write.ensures.seals c.close_write.ensures.rested

pub returns-clause-keeps : goal.returns-clause-keeps
returns-clause-keeps g c = cache_keeps _ _ c.close_write.ensures.rests
