use Rattle.std.proofs.Common.{Err, refl, sym, subst}
use Rattle.cache_answers.specs.declared.answers.Refusal.{Refusal}
use Rattle.stripe_answers.specs.Counts.{IsCounted}
use Rattle.stripe_core.specs.Stripe.{kept_in, seen_in, state_in}
use Rattle.stripe_answers.specs.Faults.{RefusalHasRecord}
use Rattle.stripe_write.specs.Finishing.{FinishesWhere, IsFirstLost}
use Rattle.stripe_write.proofs.Owning.{owns}
use Rattle.stripe_write.proofs.Completing.{is_closing}
use Rattle.stripe_write.proofs.Roomed.{loses}
use Rattle.stripe_core.proofs.Continuing.{rests_with}
use Rattle.stripe_write.proofs.finishing.end.Goals as goal

pub returns-in-Some : goal.returns-in-Some
returns-in-Some g c =
    let s = state_in c.args.stripe.now in
    let t = state_in c.lose.new.stripe in
    let w = c.args.writer.now in
    let at = c.requires.writer.writing in
    record {
      -- no vector is placed
      rests = rests_with _ _ _ c.lose.ensures.rests;
      finishes = subst (λ (r : Refusal). FinishesWhere t w (Err r)) (sym c.lose.ensures.lost) refl;
      does =
          loses c.args.now (kept_in c.args.stripe.now) (kept_in c.lose.new.stripe) _ _ w c.args.vectors
          (is_closing s w at.resting.quiet at.is_open at.writer c.requires.writer.cut) c.in-Some.index _ c.lose.result
          c.requires.vectors.spelled c.requires.room (subst (IsFirstLost s w) c.in-Some.is c.first_lost.ensures) c.lose.ensures.lost
          c.lose.ensures.adds;
      counts = subst (IsCounted (seen_in c.lose.new.stripe).device.faults) (sym c.lose.ensures.lost) tt;
      writer = c.lose.ensures.writer;
      own = owns w.put (kept_in c.args.stripe.now) (kept_in c.lose.new.stripe) _ c.lose.ensures.adds (refl, tt);
      recorded = subst (RefusalHasRecord (kept_in c.args.stripe.now) (kept_in c.lose.new.stripe)) (sym c.lose.ensures.lost) tt;
    }
