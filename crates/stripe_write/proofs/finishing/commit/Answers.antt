use Rattle.std.proofs.Common.{refl, sym, ◌∙◌, ap, subst, [], ◌∷◌, arith}
use Rattle.fragment_table.specs.Table.{total_length}
use Rattle.cache_model.specs.Kept.{state_of}
use Rattle.cache_model.specs.Verdict.{cuts_of}
use Rattle.cache_model.proofs.Steps.{after_all-append}
use Rattle.stripe_answers.specs.Acts.{committed_record}
use Rattle.stripe_core.specs.Stripe.{kept_in, state_in}
use Rattle.stripe_write.proofs.Completing.{closed_writer}
use Rattle.std.proofs.lemmas.Grind.{common_steps}
use Rattle.stripe_core.proofs.Continuing.{continues_rests}
use Rattle.stripe_write.proofs.finishing.commit.Goals as goal
use Rattle.cache_calls.specs.Actors.{IsWriterOf}
use Rattle.stripe_write.specs.Writers.{written_as}

pub returns : goal.returns
returns g c =
    let kept = kept_in c.args.stripe.now in
    let s = state_in c.args.stripe.now in
    let w = c.args.writer.now in
    record {
      rests = continues_rests _ _ c.commit.ensures.continues (grind (arith, common_steps));
      adds = c.commit.ensures.adds;
      does = c.commit.ensures.does;
      receipt = record { put = refl; bytes = c.total.ensures; fragments = c.len.ensures.len };
      still = c.commit.ensures.still;
      writer =
          subst (λ t. IsWriterOf t (written_as w)) (sym (ap state_of c.commit.ensures.adds ∙ after_all-append kept.base kept.since (committed_record s w.put w.key c.args.alternates ∷ [])))
          (closed_writer s w w.key (total_length (cuts_of s w.put)) c.args.alternates);
    }
