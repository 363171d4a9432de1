use Rattle.std.proofs.Common.{◌≡◌, List, [], ◌∷◌, false, sym, ◌∙◌, ap, subst}
use Rattle.std.specs.Prelude.{is_some}
use Rattle.std.proofs.lemmas.Result.{err_from_is_err_and}
use Rattle.cache_model.specs.declared.record.Rec.{Rec}
use Rattle.cache_model.specs.declared.record.Rec.TheVariants as rec
use Rattle.cache_model.specs.Kept.{state_of, with_records}
use Rattle.cache_model.specs.Legal.{IsQuiet}
use Rattle.cache_model.specs.Verdict.{cause_of_miss, live_vector_of}
use Rattle.stripe_answers.specs.Acts.{RemovesAsAsked}
use Rattle.stripe_core.specs.Stripe.{kept_in, state_in}
use Rattle.stripe_core.proofs.Continuing.{continues_further, continues_still, still_resting}
use Rattle.stripe_core.proofs.Stills.{still_as, still_then}
use Rattle.stripe_write.specs.Removals.{RemovesInStripe}
use Rattle.stripe_write.proofs.Ended.{absent}
use Rattle.stripe_write.proofs.Spending.{nothing_more, quiet_behind}
use Rattle.stripe_write.proofs.removal.remove.Goals as goal

pub returns-in_err-prepare : goal.returns-in_err-prepare
returns-in_err-prepare g c =
    let wanting = err_from_is_err_and c.from_residual.result c.from_residual.ensures.1 in
    subst (RemovesInStripe c.args.stripe.now c.prepare.new.self c.args.key) (sym wanting.1) (record {
      rests = continues_still _ _ c.prepare.ensures.continues c.prepare.ensures.records c.requires.resting;
      adds = tt;
      removes = tt;
      does = tt;
      err = c.prepare.ensures.records;
      still = c.prepare.ensures.still;
    })

pub take_out-put-requires-clause-resting : goal.take_out-put-requires-clause-resting
take_out-put-requires-clause-resting g c =
    still_resting c.args.stripe.now _ c.prepare.ensures.continues.stripe c.prepare.ensures.records c.requires.resting

pub returns-then-is_live : goal.returns-then-is_live
returns-then-is_live g c =
    let recs : List Rec = rec.Removed c.take_out-put.result c.args.key ∷ [] in
    record {
      rests = continues_further _ _ _ c.prepare.ensures.continues c.take_out-put.ensures.continues
          (quiet_behind (kept_in c.prepare.new.self) (kept_in c.take_out-put.new.self) recs c.take_out-put.ensures.adds
          (subst (λ k. IsQuiet (state_of k)) (sym c.prepare.ensures.records) c.requires.resting.quiet));
      adds = c.take_out-put.ensures.adds ∙ ap (λ k. with_records k recs) c.prepare.ensures.records;
      removes =
          ap (λ k. is_some (live_vector_of (state_of k) c.args.key)) (sym c.prepare.ensures.records)
          ∙ (sym c.is_live.ensures ∙ c.if-is_live.true);
      does =
          subst (λ t. RemovesAsAsked t c.args.key c.take_out-put.result) (ap state_of c.prepare.ensures.records)
          c.take_out-put.ensures.does;
      err = tt;
      still = still_then _ _ _ c.prepare.ensures.still (still_as _ _ c.take_out-put.ensures.still);
    }

pub returns-else-is_live : goal.returns-else-is_live
returns-else-is_live g c =
    let s = state_in c.args.stripe.now in
    let none : is_some (live_vector_of s c.args.key) ≡ false =
    ap (λ k. is_some (live_vector_of (state_of k) c.args.key)) (sym c.prepare.ensures.records)
    ∙ (sym c.is_live.ensures ∙ c.if-is_live.false) in
    record {
      rests = continues_still _ _ c.prepare.ensures.continues c.prepare.ensures.records c.requires.resting;
      adds = c.prepare.ensures.records ∙ sym (nothing_more (kept_in c.args.stripe.now));
      removes = (none, c.why.ensures ∙ ap (λ k. cause_of_miss (state_of k) c.args.key) (c.chronicle.ensures ∙ c.prepare.ensures.records));
      does = λ p. absent p s c.args.key c.requires.resting.quiet none;
      err = tt;
      still = c.prepare.ensures.still;
    }
