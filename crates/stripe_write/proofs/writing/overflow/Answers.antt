use Rattle.std.proofs.Common.{List, [], ◌∷◌, Err, sym, ◌∙◌, ap, subst}
use Rattle.std.proofs.lemmas.Result.{err_from_is_err_and}
use Rattle.cache_model.specs.declared.record.Rec.{Rec}
use Rattle.cache_model.specs.declared.record.Rec.TheVariants as rec
use Rattle.cache_model.specs.Kept.{state_of, with_records}
use Rattle.cache_model.specs.Legal.{IsQuiet, is_writing}
use Rattle.stripe_core.specs.Stripe.{kept_in, state_in}
use Rattle.stripe_core.proofs.Continuing.{continues_further, continues_still}
use Rattle.stripe_core.proofs.Stills.{still_as, still_then}
use Rattle.stripe_write.specs.Writes.{OverflowsInStripe}
use Rattle.stripe_write.proofs.Ended.{giving_up, no_writer, overflows}
use Rattle.stripe_write.proofs.Spending.{nothing_more, quiet_behind, state_behind}
use Rattle.stripe_write.proofs.writing.overflow.Goals as goal
use Rattle.cache_calls.specs.Actors.{IsWriterOf}
use Rattle.stripe_write.specs.Writers.{written_as}

pub give_up-requires-clause-writing : goal.give_up-requires-clause-writing
give_up-requires-clause-writing g c =
    let own = c.requires.writing in
    giving_up (state_in c.prepare.new.self) c.args.writer.now
    (subst (λ k. IsQuiet (state_of k)) (sym c.prepare.ensures.records) own.resting.quiet)
    (ap (λ k. is_writing (state_of k) c.args.writer.now.put) c.prepare.ensures.records ∙ own.is_open)
    (subst (λ k. IsWriterOf (state_of k) (written_as c.args.writer.now)) (sym c.prepare.ensures.records) own.writer)

pub returns-in_err-prepare : goal.returns-in_err-prepare
returns-in_err-prepare g c =
    let w = c.args.writer.now in
    let own = c.requires.writing in
    let wanting = err_from_is_err_and c.from_residual.result c.from_residual.ensures.1 in
    subst (OverflowsInStripe c.args.stripe.now c.prepare.new.self w) (sym (wanting.1 ∙ ap Err wanting.2)) (record {
      rests = continues_still _ _ c.prepare.ensures.continues c.prepare.ensures.records own.resting;
      refused = tt;
      adds = c.prepare.ensures.records ∙ sym (nothing_more (kept_in c.args.stripe.now));
      does = λ p. overflows p (state_in c.args.stripe.now) w own.resting.quiet own.is_open own.writer c.requires.full;
      writer = subst (λ k. IsWriterOf (state_of k) (written_as w)) (sym c.prepare.ensures.records) own.writer;
      still = c.prepare.ensures.still;
    })

pub returns : goal.returns
returns g c =
    let w = c.args.writer.now in
    let own = c.requires.writing in
    let prepared = kept_in c.prepare.new.self in
    let new = kept_in c.give_up.new.self in
    let recs : List Rec = rec.Aborted w.put w.key ∷ [] in
    record {
      rests = continues_further _ _ _ c.prepare.ensures.continues c.give_up.ensures.continues
          (quiet_behind prepared new recs c.give_up.ensures.adds
          (subst (λ k. IsQuiet (state_of k)) (sym c.prepare.ensures.records) own.resting.quiet));
      refused = tt;
      adds = c.give_up.ensures.adds ∙ ap (λ k. with_records k recs) c.prepare.ensures.records;
      does = λ p. overflows p (state_in c.args.stripe.now) w own.resting.quiet own.is_open own.writer c.requires.full;
      writer =
          subst (λ t. IsWriterOf t (written_as w)) (sym (state_behind prepared new recs c.give_up.ensures.adds))
          (no_writer (state_of prepared) w w.key);
      still = still_then _ _ _ c.prepare.ensures.still (still_as _ _ c.give_up.ensures.still);
    }
