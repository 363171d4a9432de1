use Rattle.std.proofs.Common.{◌≡◌, ◌<◌, ◌≤◌, Result, Err, refl, sym, ◌∙◌, ap, subst, [], ◌∷◌, arith}
use Rattle.std.proofs.lemmas.Result.{err_from_is_err_and}
use Rattle.std.specs.Prelude.{None, Some}
use Rattle.tape_base.specs.Blocks.{blocks_of}
use Rattle.tape_base.specs.Geometry.{budget_of}
use Rattle.alternate_vector.specs.Alternates.{Stored, stored_of, vector_size}
use Rattle.cache_model.specs.declared.record.Rec.TheVariants as rec
use Rattle.cache_answers.specs.declared.answers.Refusal.{Refusal}
use Rattle.cache_answers.specs.declared.answers.Refusal.TheVariants as refusal
use Rattle.stripe_core.specs.Stripe.{kept_in, state_in}
use Rattle.stripe_write.specs.declared.weighing.Vectors.{Vectors}
use Rattle.stripe_write.specs.Weighing.{FitsInStripe, IsSpelledAlone, IsSpelledWith}
use Rattle.stripe_write.proofs.Ended.{giving_up, no_writer}
use Rattle.stripe_write.proofs.Spending.{nothing_more, state_behind}
use Rattle.std.proofs.lemmas.Grind.{common_steps}
use Rattle.stripe_core.proofs.Continuing.{continues_rests, rests_same}
use Rattle.stripe_write.proofs.weighing.fit.Goals as goal
use Rattle.cache_calls.specs.Actors.{IsWriterOf}
use Rattle.cache_calls.specs.Writers.{alternate_at_close, size_at_close}
use Rattle.stripe_write.specs.Writers.{written_as}

pub spell_with-requires-clause-fits : goal.spell_with-requires-clause-fits
spell_with-requires-clause-fits g c =
    let s = state_in c.args.stripe.now in
    let alone = subst (IsSpelledAlone s.geometry (alternate_at_close (written_as c.args.writer.now))) c.in-Some.is c.requires.own.alone in
    let fits : blocks_of (vector_size (stored_of c.args.own.alternate ∷ [])) ≤ budget_of s.geometry = subst (λ (a : Stored). blocks_of (vector_size (a ∷ [])) ≤ budget_of s.geometry) (sym c.requires.own.stored) alone.0 in
    rw c.geometry.ensures fits

pub give_up-requires-clause-writing : goal.give_up-requires-clause-writing
give_up-requires-clause-writing g c =
    giving_up (state_in c.args.stripe.now) c.args.writer.now c.requires.writing.resting.quiet c.requires.writing.is_open c.requires.writing.writer

-- memory is wanting for what was read, and for nothing else
pub returns-in_err-merged-in-Some : goal.returns-in_err-merged-in-Some
returns-in_err-merged-in-Some g c =
    let t = c.args.stripe.now in
    let wanting = err_from_is_err_and c.from_residual.result c.from_residual.ensures.1 in
    let is : c.from_residual.result ≡ Err (refusal.Memory c.in_err-merged-in-Some.field-0.0) = wanting.1 ∙ ap Err wanting.2 in
    subst (λ (r : Result Vectors Refusal). FitsInStripe c.args.list t t c.args.writer.now r) (sym is) (record {
      rests = rests_same t c.requires.writing.resting;
      fits = c.in_err-merged-in-Some.ensures.wants;
      adds = sym (nothing_more (kept_in t));
      writer = c.requires.writing.writer;
      same = tt;
      still = refl;
    })

pub returns-in_ok-merged-in-Some : goal.returns-in_ok-merged-in-Some
returns-in_ok-merged-in-Some g c =
    let t = c.args.stripe.now in
    let s = state_in t in
    let new = alternate_at_close (written_as c.args.writer.now) in
    let alone : IsSpelledAlone s.geometry new (Some c.in-Some.alone) = subst (IsSpelledAlone s.geometry new) c.in-Some.is c.requires.own.alone in
    record {
      rests = rests_same t c.requires.writing.resting;
      fits = record {
        fits = alone.0;
        alone = alone.1;
        merged =
            subst (λ (a : Stored). IsSpelledWith s.geometry c.args.list a c.in_ok-merged-in-Some.merged) c.requires.own.stored
            (subst (λ g. IsSpelledWith g c.args.list (stored_of c.args.own.alternate) c.in_ok-merged-in-Some.merged) c.geometry.ensures
            c.in_ok-merged-in-Some.ensures.merged);
      };
      adds = sym (nothing_more (kept_in t));
      writer = c.requires.writing.writer;
      same = refl;
      still = refl;
    }

pub returns-in-None : goal.returns-in-None
returns-in-None g c =
    let s = state_in c.args.stripe.now in
    let w = c.args.writer.now in
    let large : IsSpelledAlone s.geometry (alternate_at_close (written_as w)) None = subst (IsSpelledAlone s.geometry (alternate_at_close (written_as w))) c.in-None.is c.requires.own.alone in
    let size : c.size_alone-bytes.result ≡ size_at_close (written_as w) =
    c.size_alone-bytes.ensures ∙ ap (λ (a : Stored). vector_size (a ∷ [])) c.requires.own.stored in
    record {
      rests = continues_rests _ _ c.give_up.ensures.continues (grind (arith, common_steps));
      fits = (size, subst (λ n. budget_of s.geometry < blocks_of n) (sym size) large);
      adds = c.give_up.ensures.adds;
      writer =
          subst (λ t. IsWriterOf t (written_as w)) (sym (state_behind (kept_in c.args.stripe.now) (kept_in c.give_up.new.self) (rec.Aborted w.put w.key ∷ []) c.give_up.ensures.adds))
          (no_writer s w w.key);
      same = tt;
      still = c.give_up.ensures.still;
    }
