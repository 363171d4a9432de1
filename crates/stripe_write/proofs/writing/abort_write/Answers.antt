use Rattle.std.proofs.Common.{◌≡◌, List, [], ◌∷◌, Err, false, refl, sym, ◌∙◌, ap, subst}
use Rattle.std.proofs.lemmas.Result.{err_from_is_err_and}
use Rattle.cache_model.specs.declared.record.Rec.{Rec}
use Rattle.cache_model.specs.declared.record.Rec.TheVariants as rec
use Rattle.cache_model.specs.Kept.{state_of, with_records}
use Rattle.cache_model.specs.Legal.{IsQuiet, is_writing}
use Rattle.stripe_answers.specs.Acts.{GivesUpAsAsked}
use Rattle.stripe_core.specs.Stripe.{kept_in, state_in}
use Rattle.stripe_core.proofs.Continuing.{continues_further, continues_still, rests_same}
use Rattle.stripe_core.proofs.Stills.{still_as, still_then}
use Rattle.stripe_write.specs.Writes.{AbortsInStripe}
use Rattle.stripe_write.proofs.Ended.{giving_up, no_writer, over}
use Rattle.stripe_write.proofs.Spending.{nothing_more, quiet_behind, state_behind}
use Rattle.stripe_write.proofs.writing.abort_write.Goals as goal
use Rattle.cache_calls.specs.Actors.{IsWriterOf}
use Rattle.stripe_write.specs.Writers.{written_as}

pub returns-then-not-is_open : goal.returns-then-not-is_open
returns-then-not-is_open g c =
    let s = state_in c.args.stripe.now in
    let none : is_writing s c.args.writer.now.put ≡ false = sym c.is_open.ensures ∙ c.if-not-is_open.true in
    record {
      rests = rests_same c.args.stripe.now c.requires.resting;
      adds = sym (nothing_more (kept_in c.args.stripe.now));
      aborts = none;
      does = λ p. over p s c.args.writer.now.put c.requires.resting.quiet none;
      writer = c.requires.writer;
      same = refl;
      still = still_as _ _ refl;
    }

pub give_up-requires-clause-writing : goal.give_up-requires-clause-writing
give_up-requires-clause-writing g c =
    giving_up (state_in c.prepare.new.self) c.args.writer.now
    (subst (λ k. IsQuiet (state_of k)) (sym c.prepare.ensures.records) c.requires.resting.quiet)
    (ap (λ k. is_writing (state_of k) c.args.writer.now.put) c.prepare.ensures.records ∙ (sym c.is_open.ensures ∙ c.if-not-is_open.false))
    (subst (λ k. IsWriterOf (state_of k) (written_as c.args.writer.now)) (sym c.prepare.ensures.records) c.requires.writer)

pub returns-in_err-prepare : goal.returns-in_err-prepare
returns-in_err-prepare g c =
    let w = c.args.writer.now in
    let wanting = err_from_is_err_and c.from_residual.result c.from_residual.ensures.1 in
    subst (AbortsInStripe c.args.stripe.now c.prepare.new.self w w) (sym (wanting.1 ∙ ap Err wanting.2)) (record {
      rests = continues_still _ _ c.prepare.ensures.continues c.prepare.ensures.records c.requires.resting;
      adds = c.prepare.ensures.records ∙ sym (nothing_more (kept_in c.args.stripe.now));
      aborts = sym c.is_open.ensures ∙ c.if-not-is_open.false;
      does = tt;
      writer = subst (λ k. IsWriterOf (state_of k) (written_as w)) (sym c.prepare.ensures.records) c.requires.writer;
      same = refl;
      still = c.prepare.ensures.still;
    })

pub returns : goal.returns
returns g c =
    let w = c.args.writer.now in
    let prepared = kept_in c.prepare.new.self in
    let new = kept_in c.give_up.new.self in
    let recs : List Rec = rec.Aborted w.put w.key ∷ [] in
    record {
      rests = continues_further _ _ _ c.prepare.ensures.continues c.give_up.ensures.continues
          (quiet_behind prepared new recs c.give_up.ensures.adds
          (subst (λ k. IsQuiet (state_of k)) (sym c.prepare.ensures.records) c.requires.resting.quiet));
      adds = c.give_up.ensures.adds ∙ ap (λ k. with_records k recs) c.prepare.ensures.records;
      aborts = (refl, sym c.is_open.ensures ∙ c.if-not-is_open.false);
      does = subst (λ t. GivesUpAsAsked t w.put w.key) (ap state_of c.prepare.ensures.records) c.give_up.ensures.does;
      writer =
          subst (λ t. IsWriterOf t (written_as w)) (sym (state_behind prepared new recs c.give_up.ensures.adds))
          (no_writer (state_of prepared) w w.key);
      same = refl;
      still = still_then _ _ _ c.prepare.ensures.still (still_as _ _ c.give_up.ensures.still);
    }
