use Rattle.std.proofs.Common.{sym, ◌∙◌, ap, subst, [], ◌∷◌, arith}
use Rattle.cache_model.specs.declared.record.Rec.TheVariants as rec
use Rattle.cache_model.specs.Kept.{Kept, state_of}
use Rattle.cache_model.specs.State.{State, fragment_piece}
use Rattle.cache_model.specs.Verdict.{cause_of_piece}
use Rattle.cache_model.proofs.Steps.{after_all-append}
use Rattle.cache_answers.specs.declared.answers.Refusal.TheVariants as refusal
use Rattle.stripe_core.specs.Stripe.{kept_in, state_in}
use Rattle.stripe_write.proofs.Ended.{giving_up, no_writer}
use Rattle.std.proofs.lemmas.Grind.{common_steps}
use Rattle.stripe_core.proofs.Continuing.{continues_rests}
use Rattle.stripe_write.proofs.Spending.{state_behind}
use Rattle.stripe_write.proofs.finishing.lose.Goals as goal
use Rattle.cache_calls.specs.Actors.{IsWriterOf}
use Rattle.stripe_write.specs.Writers.{written_as}

pub give_up-requires-clause-writing : goal.give_up-requires-clause-writing
give_up-requires-clause-writing g c =
    giving_up (state_in c.args.stripe.now) c.args.writer.now c.requires.writing.resting.quiet c.requires.writing.is_open c.requires.writing.writer

pub returns : goal.returns
returns g c =
    let kept = kept_in c.args.stripe.now in
    let w = c.args.writer.now in
    let id = fragment_piece w.key w.put c.args.index in
    let behind = state_behind kept (kept_in c.give_up.new.self) (rec.Aborted w.put w.key ∷ []) c.give_up.ensures.adds in
    record {
      rests = continues_rests _ _ c.give_up.ensures.continues (grind (arith, common_steps));
      lost =
          ap (refusal.Lost c.args.index)
          (c.why_piece-cause.ensures
          ∙ (ap (λ (k : Kept). cause_of_piece (state_of k) id) c.chronicle.ensures ∙ sym (ap (λ (t : State). cause_of_piece t id) behind)));
      adds = c.give_up.ensures.adds;
      still = c.give_up.ensures.still;
      writer =
          subst (λ t. IsWriterOf t (written_as c.args.writer.now))
          (sym (ap state_of c.give_up.ensures.adds ∙ after_all-append kept.base kept.since (rec.Aborted c.args.writer.now.put c.args.writer.now.key ∷ [])))
          (no_writer (state_in c.args.stripe.now) c.args.writer.now c.args.writer.now.key);
    }
