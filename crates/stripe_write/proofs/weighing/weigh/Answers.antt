use Rattle.std.proofs.Common.{◌≡◌, ◌+◌, ◌≤◌, Result, Ok, OnOk, Err, refl, sym, ◌∙◌, ap, subst}
use Rattle.std.proofs.lemmas.Result.{err_from_is_err_and}
use Rattle.cache_model.specs.Kept.{state_of}
use Rattle.stripe_core.specs.Stripe.{kept_in, room_for, seen_in, state_in, units_in}
use Rattle.stripe_write.specs.Weighing.{FitsWhere, IsOwnAlternateOf}
use Rattle.stripe_write.proofs.Counted.{read_counted}
use Rattle.stripe_write.proofs.Owning.{owns_fit, owns_read, then_owns}
use Rattle.stripe_answers.proofs.Seeing.{seen_none}
use Rattle.stripe_write.proofs.Gathering.{few_gathered, still_writer}
use Rattle.stripe_write.proofs.WeighingFits.{faults, fit_counted, more_gathered, wants_nothing, weighs, weighs_nothing, weighs_where}
use Rattle.stripe_write.proofs.WeighingReads.{same_displaced, same_pending, same_puts, still_writing}
use Rattle.stripe_core.proofs.Continuing.{continues_rests, continues_same, then_rests}
use Rattle.stripe_core.proofs.Stills.{unwritten_as, unwritten_then}
use Rattle.stripe_write.proofs.weighing.weigh.Goals as goal

pub spell_own-requires-clause-few : goal.spell_own-requires-clause-few
spell_own-requires-clause-few g c =
    rw c.geometry.ensures (few_gathered (state_in c.args.stripe.now) c.args.writer.now c.requires.writing.is_open c.requires.writing.writer)

pub spell_own-requires-clause-more : goal.spell_own-requires-clause-more
spell_own-requires-clause-more g c = more_gathered (state_in c.args.stripe.now) c.args.writer.now c.requires.writing.is_open c.requires.writing.writer

pub fit-requires-clause-own : goal.fit-requires-clause-own
fit-requires-clause-own g c =
    subst (λ x. IsOwnAlternateOf x c.args.writer.now c.in_ok-own.own)
    (c.geometry.ensures ∙ sym (same_puts (kept_in c.args.stripe.now) (kept_in c.read_vector.new.stripe) c.args.writer.now.key c.in_ok-found.found c.in_ok-found.ensures.adds).geometry)
    c.in_ok-own.ensures

pub fit-requires-clause-writing : goal.fit-requires-clause-writing
fit-requires-clause-writing g c =
    let old = kept_in c.args.stripe.now in
    let mid = kept_in c.read_vector.new.stripe in
    let w = c.args.writer.now in
    let same = same_puts old mid w.key c.in_ok-found.found c.in_ok-found.ensures.adds in
    record {
      resting = record {
        stripe = c.read_vector.ensures.continues.stripe;
        quiet = same_pending old mid w.key c.in_ok-found.found c.in_ok-found.ensures.adds ∙ c.requires.writing.resting.quiet;
      };
      writer = still_writer (state_in c.args.stripe.now) (state_in c.read_vector.new.stripe) w same c.requires.writing.writer;
      is_open = still_writing (state_in c.args.stripe.now) (state_in c.read_vector.new.stripe) w.put same c.requires.writing.is_open;
    }

pub returns-in_err-own : goal.returns-in_err-own
returns-in_err-own g c =
    let wanting = err_from_is_err_and c.from_residual.result c.from_residual.ensures.1 in
    let device = (seen_in c.args.stripe.now).device in
    weighs_nothing c.args.stripe.now c.args.stripe.now c.args.writer.now c.from_residual.result c.in_err-own.field-0.0
    (wanting.1 ∙ ap Err wanting.2) c.requires.writing (continues_same c.args.stripe.now c.requires.writing.resting.stripe) refl
    (unwritten_as device device refl) (seen_none device device refl)

pub returns-in_err-found : goal.returns-in_err-found
returns-in_err-found g c =
    let wanting = err_from_is_err_and c.from_residual-in_err-found.result c.from_residual-in_err-found.ensures.1 in
    weighs_nothing c.args.stripe.now c.read_vector.new.stripe c.args.writer.now c.from_residual-in_err-found.result
    c.in_err-found.field-0.0 (wanting.1 ∙ ap Err wanting.2) c.requires.writing c.read_vector.ensures.continues c.in_err-found.ensures.err
    c.read_vector.ensures.unwritten c.read_vector.ensures.seen

pub returns-in-Some : goal.returns-in-Some
returns-in-Some g c =
    let old = kept_in c.args.stripe.now in
    let mid = kept_in c.read_vector.new.stripe in
    let before = (seen_in c.args.stripe.now).device in
    let during = (seen_in c.read_vector.new.stripe).device in
    let w = c.args.writer.now in
    record {
      rests =
          continues_rests _ _ c.read_vector.ensures.continues
          (same_pending old mid w.key c.in_ok-found.found c.in_ok-found.ensures.adds ∙ c.requires.writing.resting.quiet);
      weighs = tt;
      does =
          faults old mid before during w c.in_ok-found.found c.in-Some.count c.requires.writing.resting.quiet c.requires.writing.is_open
          c.requires.writing.writer (sym c.fault_in.ensures ∙ c.in-Some.is) c.in_ok-found.ensures.adds c.in_ok-found.ensures.finds;
      unwritten = c.read_vector.ensures.unwritten;
      counts =
          read_counted old mid before during w.key c.in_ok-found.found c.in-Some.count (sym c.fault_in.ensures ∙ c.in-Some.is)
          c.in_ok-found.ensures.adds c.read_vector.ensures.continues.stripe.pieces.faults c.in_ok-found.ensures.finds;
      wanting = tt;
      writer =
          still_writer (state_in c.args.stripe.now) (state_in c.read_vector.new.stripe) w
          (same_puts old mid w.key c.in_ok-found.found c.in_ok-found.ensures.adds) c.requires.writing.writer;
      puts = tt;
      geometry = tt;
      displaced = tt;
      row = tt;
      unit = tt;
      own = owns_read w.put old mid w.key c.in_ok-found.found c.in_ok-found.ensures.adds;
    }

on_ok : {X E : Type 0} (r : Result X E) (P Q : Type 0) → (P → Q) → OnOk r P → OnOk r Q
on_ok (Ok x) P Q f h = f h
on_ok (Err e) P Q f h = tt

pub returns-in-None : goal.returns-in-None
returns-in-None g c =
    let old = kept_in c.args.stripe.now in
    let mid = kept_in c.read_vector.new.stripe in
    let new = kept_in c.fit.new.stripe in
    let before = (seen_in c.args.stripe.now).device in
    let during = (seen_in c.read_vector.new.stripe).device in
    let after = (seen_in c.fit.new.stripe).device in
    let w = c.args.writer.now in
    let found = c.in_ok-found.found in
    let adds = c.in_ok-found.ensures.adds in
    let same = same_puts old mid w.key found adds in
    record {
      rests = then_rests _ _ _ c.read_vector.ensures.continues c.fit.ensures.rests;
      weighs =
          weighs_where (state_in c.args.stripe.now) (state_in c.read_vector.new.stripe) c.list_in.result w c.fit.result same.geometry
          c.fit.ensures.fits;
      does =
          weighs c.read_is_listed.ensures old mid new before during after w found c.fit.result
          (record {
            quiet = c.requires.writing.resting.quiet;
            writing = c.requires.writing.is_open;
            own = c.requires.writing.writer;
            quiet_then = same_pending old mid w.key found adds ∙ c.requires.writing.resting.quiet;
            writing_then = still_writing (state_of old) (state_of mid) w.put same c.requires.writing.is_open;
            own_then = still_writer (state_of old) (state_of mid) w same c.requires.writing.writer;
            no_fault = sym c.fault_in.ensures ∙ c.in-None.is;
            reads = adds;
            finds = c.in_ok-found.ensures.finds;
            fits = subst (λ o. FitsWhere (state_of mid) o w c.fit.result) c.list_in.ensures c.fit.ensures.fits;
            adds = c.fit.ensures.adds;
            still = c.fit.ensures.still;
          });
      unwritten = unwritten_then _ _ _ c.read_vector.ensures.unwritten (unwritten_as _ _ c.fit.ensures.still);
      counts = fit_counted (state_in c.read_vector.new.stripe) c.list_in.result w after.faults c.fit.result c.fit.ensures.fits;
      wanting =
          wants_nothing old mid new w found c.fit.result
          (subst (λ o. FitsWhere (state_of mid) o w c.fit.result) c.list_in.ensures c.fit.ensures.fits) adds c.fit.ensures.adds;
      writer = c.fit.ensures.writer;
      puts =
          on_ok c.fit.result (c.fit.new.stripe ≡ c.read_vector.new.stripe) _ (λ stays. ap (λ t. (state_in t).puts) stays ∙ same.puts)
          c.fit.ensures.same;
      geometry =
          on_ok c.fit.result (c.fit.new.stripe ≡ c.read_vector.new.stripe) _
          (λ stays. ap (λ t. (state_in t).geometry) stays ∙ same.geometry) c.fit.ensures.same;
      displaced =
          on_ok c.fit.result (c.fit.new.stripe ≡ c.read_vector.new.stripe) _
          (λ stays. ap (λ t. (state_in t).displaced) stays ∙ same_displaced old mid w.key found adds) c.fit.ensures.same;
      row =
          on_ok c.fit.result (c.fit.new.stripe ≡ c.read_vector.new.stripe)
          (room_for w.put c.fit.new.stripe.actors ≡ room_for w.put c.args.stripe.now.actors)
          (λ stays. rw stays (c.read_vector.ensures.row w.put)) c.fit.ensures.same;
      unit =
          on_ok c.fit.result (c.fit.new.stripe ≡ c.read_vector.new.stripe)
          (units_in c.args.stripe.now ≤ units_in c.fit.new.stripe + 1) (λ stays. rw stays c.read_vector.ensures.unit) c.fit.ensures.same;
      own =
          then_owns w.put old mid new (owns_read w.put old mid w.key found adds)
          (owns_fit mid new w c.fit.result c.fit.ensures.adds);
    }
