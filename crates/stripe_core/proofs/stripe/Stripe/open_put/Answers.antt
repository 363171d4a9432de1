use Rattle.std.proofs.Common.{◌≡◌, ℕ, List, ◌*◌, ◌≤◌, Result, Err, sym, ◌∙◌, ap, subst, refl, arith, [], ◌∷◌}
use Rattle.std.proofs.lemmas.Result.{IfOk-from_err, err_from_is_err_and}
use Rattle.std.specs.Prelude.{OnErr}
use Rattle.cache_model.specs.declared.record.Rec.TheVariants as rec
use Rattle.cache_model.specs.State.{state_after}
use Rattle.cache_model.specs.Kept.{Kept, state_of, with_records}
use Rattle.tape_base.specs.declared.actors.Actor.{Actor}
use Rattle.tape_base.specs.declared.keys.Key.{Key}
use Rattle.alternate_vector.specs.Field.{Field}
use Rattle.cache_model.specs.Contents.{contents_of_vectors}
use Rattle.stripe_answers.specs.Named.{IsNamed}
use Rattle.stripe_actors.specs.Actors.{AreActors}
use Rattle.stripe_actors.specs.Calls.{IsExhausted, OpensWhere}
use Rattle.cache_answers.specs.declared.answers.Refusal.{Refusal}
use Rattle.cache_answers.specs.declared.answers.Refusal.TheVariants as refusal
use Rattle.stripe_answers.specs.Acts.{OpensAsAsked}
use Rattle.stripe_core.specs.Calls.{OpensPutInStripe}
use Rattle.stripe_core.specs.Stripe.{kept_in, seen_in, state_in}
use Rattle.stripe_pieces.specs.Units.{records_of_unit}
use Rattle.piece_answers.proofs.RecordsAdded.{state_of-with_records}
use Rattle.stripe_core.proofs.Doings.{LeavesPieces, held_behind, opens, reader_behind, refused_opens, standing_behind}
use Rattle.stripe_core.proofs.Sparing.{behind_one, made_behind, numbered_by, spared_more}
use Rattle.stripe_answers.proofs.Naming.{named_behind, named_opened}
use Rattle.stripe_core.proofs.Between.{between-tells}
use Rattle.stripe_core.proofs.Continuing.{continues_beside, continues_same}
use Rattle.piece_answers.proofs.NoneDisplaced.{none_behind}
use Rattle.piece_answers.proofs.Documents.{documents_stay}
use Rattle.stripe_core.proofs.stripe.Stripe.open_put.Goals as goal

-- what was opened, by the lines that were asked
opened_as : (actor : Actor) (put pin : ℕ) (key : Key) (kept reserved after : Kept)
    (request given_request response given_response : List Field)
    → after ≡ with_records reserved (rec.WriteOpened actor put key given_request given_response pin ∷ [])
    → reserved ≡ kept → given_request ≡ request → given_response ≡ response
    → after ≡ with_records kept (rec.WriteOpened actor put key request response pin ∷ [])
opened_as actor put pin key kept reserved after request given_request response given_response is same first second =
    is ∙ (ap (λ k. with_records k (rec.WriteOpened actor put key given_request given_response pin ∷ [])) same
    ∙ (ap (λ q. with_records kept (rec.WriteOpened actor put key q given_response pin ∷ [])) first
    ∙ ap (λ q. with_records kept (rec.WriteOpened actor put key request q pin ∷ [])) second))

pub returns-in_err-kept_request : goal.returns-in_err-kept_request
returns-in_err-kept_request g c =
    let wanting = err_from_is_err_and c.from_residual.result c.from_residual.ensures.1 in
    subst (OpensPutInStripe c.args.actor c.args.key c.args.request c.args.response c.args.pin c.args.self.now c.args.self.now)
    (sym (wanting.1 ∙ ap Err wanting.2)) (record {
      continues = continues_same c.args.self.now c.requires.resting.stripe;
      adds = tt;
      err = refl;
      does = c.requires.number;
      still = refl;
      unit = refl;
    })

pub returns-in_err-kept_response : goal.returns-in_err-kept_response
returns-in_err-kept_response g c =
    let wanting = err_from_is_err_and c.from_residual-in_err-kept_response.result c.from_residual-in_err-kept_response.ensures.1 in
    subst (OpensPutInStripe c.args.actor c.args.key c.args.request c.args.response c.args.pin c.args.self.now c.args.self.now)
    (sym (wanting.1 ∙ ap Err wanting.2)) (record {
      continues = continues_same c.args.self.now c.requires.resting.stripe;
      adds = tt;
      err = refl;
      does = c.requires.number;
      still = refl;
      unit = refl;
    })

pub returns-in_err-reserve : goal.returns-in_err-reserve
returns-in_err-reserve g c =
    let s = state_in c.args.self.now in
    let stripe = c.requires.resting.stripe in
    let after = g.C.Chronicle.kept c.reserve.new.self in
    let wanting = err_from_is_err_and c.from_residual-in_err-reserve.result c.from_residual-in_err-reserve.ensures.1 in
    let is = sym (wanting.1 ∙ ap Err wanting.2) in
    record {
      continues =
          continues_beside c.args.self.now _ stripe c.reserve.ensures.kept refl (λ t h. h)
          (spared_more c.args.self.now.units c.args.self.now.flushes _ _ (seen_in c.args.self.now) stripe.spared c.reserve.ensures.same)
          stripe.readers stripe.ahead;
      adds = IfOk-from_err c.from_residual-in_err-reserve.result _ c.from_residual-in_err-reserve.ensures.0;
      err = subst (λ (r : Result ℕ Refusal). OnErr r (after ≡ kept_in c.args.self.now)) is c.reserve.ensures.kept;
      does = subst (OpensAsAsked s c.args.actor c.args.key c.args.request c.args.response c.args.pin) is c.requires.number;
      still = refl;
      unit = refl;
    }

pub returns-in-Ok : goal.returns-in-Ok
returns-in-Ok g c =
    let s = state_in c.args.self.now in
    let kept = kept_in c.args.self.now in
    let before = seen_in c.args.self.now in
    let told = rec.WriteOpened c.args.actor c.in-Ok.put c.args.key c.args.request c.args.response c.args.pin in
    let after = g.C.Chronicle.kept c.write_opened.new.chronicle in
    let is : after ≡ with_records kept (told ∷ []) =
    opened_as c.args.actor c.in-Ok.put c.args.pin c.args.key kept (g.C.Chronicle.kept c.reserve.new.self) after c.args.request
    c.in_ok-kept_request.kept_request c.args.response c.in_ok-kept_response.kept_response c.write_opened.ensures.kept c.reserve.ensures.kept
    c.in_ok-kept_request.ensures.copy c.in_ok-kept_response.ensures.copy in
    let reader = reader_behind kept after told is in
    let leaves : LeavesPieces s (state_after s told) =
    record { geometry = refl; cursor = refl; filled = refl; rows = refl; fault = refl } in
    let number = c.in-Ok.ensures.ok.number ∙ c.requires.resting.stripe.actors.next_put in
    record {
      continues = record {
        stripe = record {
          pieces = held_behind kept after before told is tt leaves c.requires.resting.stripe.pieces;
          actors = subst (λ t. AreActors t c.open_put.new.self) (sym (ap state_of is ∙ state_of-with_records kept (told ∷ [])))
              (c.in-Ok.ensures.ok.opened c.args.actor c.args.pin s c.requires.resting.stripe.actors);
          spared = record {
            for_records =
                subst (λ geometry. records_of_unit geometry * c.args.self.now.units ≤ g.C.Chronicle.room c.write_opened.new.chronicle)
                c.geometry.ensures
                (behind_one _ c.records_of-most.result (g.C.Chronicle.room c.reserve.new.self) _ c.records_of-most.ensures.count
                c.in_ok-reserve.ensures.room c.write_opened.ensures.room);
            entries = c.requires.resting.stripe.spared.entries;
            one_each = c.requires.resting.stripe.spared.one_each;
            calls = c.requires.resting.stripe.spared.calls;
            blocks = omega (arith, c.requires.resting.stripe.spared);
          };
          named = named_behind kept after told is
              (subst (λ n. IsNamed (state_after s (rec.WriteOpened c.args.actor n c.args.key c.args.request c.args.response c.args.pin)))
              (sym (c.in-Ok.ensures.ok.number ∙ c.requires.resting.stripe.actors.next_put))
              (named_opened s c.args.actor c.args.key c.args.request c.args.response c.args.pin c.requires.resting.stripe.named));
          readers = omega (arith, c.requires.resting.stripe.readers, c.open_put.ensures.readers);
          ahead = made_behind kept after told c.args.self.now.ahead is refl c.requires.resting.stripe.ahead;
          none = none_behind kept after told is refl c.requires.resting.stripe.none;
          vectors = standing_behind kept after before told is tt leaves c.requires.resting.stripe.pieces
              contents_of_vectors tt c.requires.resting.stripe.vectors;
          documents = documents_stay c.requires.resting.stripe.documents
              (λ contents. standing_behind kept after before told is tt leaves c.requires.resting.stripe.pieces contents tt);
          numbered = numbered_by kept after (told ∷ []) 0 is (omega (arith, reader)) (omega arith) c.requires.resting.stripe.numbered;
        };
        between = between-tells _ _ kept after (told ∷ []) refl is refl (refl, tt) (refl, tt);
        contents = standing_behind kept after before told is tt leaves c.requires.resting.stripe.pieces;
        later = omega arith;
      };
      adds = is ∙ ap (λ n. with_records kept (rec.WriteOpened c.args.actor n c.args.key c.args.request c.args.response c.args.pin ∷ []))
          number;
      err = tt;
      does = (
        number,
        λ p. opens p s c.args.actor c.args.key c.args.request c.args.response c.args.pin c.requires.resting.quiet c.requires.number.few
            c.requires.number.below
            c.in_ok-kept_request.ensures.fields c.in_ok-kept_response.ensures.fields (omega arith),
      );
      still = refl;
      unit = refl;
    }

pub returns-in-Err-TooManyWriters : goal.returns-in-Err-TooManyWriters
returns-in-Err-TooManyWriters g c =
    let s = state_in c.args.self.now in
    let stripe = c.requires.resting.stripe in
    record {
      continues =
          continues_beside c.args.self.now _ stripe c.reserve.ensures.kept refl
          (λ t h. subst (AreActors t) (sym c.in-Err-TooManyWriters.ensures.err) h)
          (spared_more c.args.self.now.units c.args.self.now.flushes _ _ (seen_in c.args.self.now) stripe.spared c.reserve.ensures.same)
          (omega (arith, stripe.readers, c.open_put.ensures.readers)) stripe.ahead;
      adds = tt;
      err = c.reserve.ensures.kept;
      does =
          refused_opens s c.args.actor c.args.key c.args.request c.args.response c.args.pin refusal.TooManyWriters c.requires.resting.quiet
          (subst (λ e. OpensWhere s (Err e)) c.in-Err-TooManyWriters.field-0-is (c.in-Err-TooManyWriters.ensures.exact s stripe.actors));
      still = refl;
      unit = refl;
    }

pub returns-in-Err-Exhausted : goal.returns-in-Err-Exhausted
returns-in-Err-Exhausted g c =
    let s = state_in c.args.self.now in
    let stripe = c.requires.resting.stripe in
    record {
      continues =
          continues_beside c.args.self.now _ stripe c.reserve.ensures.kept refl
          (λ t h. subst (AreActors t) (sym c.in-Err-Exhausted.ensures.err) h)
          (spared_more c.args.self.now.units c.args.self.now.flushes _ _ (seen_in c.args.self.now) stripe.spared c.reserve.ensures.same)
          (omega (arith, stripe.readers, c.open_put.ensures.readers)) stripe.ahead;
      adds = tt;
      err = c.reserve.ensures.kept;
      does =
          let reached : IsExhausted s c.in-Err-Exhausted.number =
          subst (λ e. OpensWhere s (Err e)) c.in-Err-Exhausted.field-0-is (c.in-Err-Exhausted.ensures.exact s stripe.actors) in
          rw c.in-Err-Exhausted.field-0-is
          (refused_opens s c.args.actor c.args.key c.args.request c.args.response c.args.pin (refusal.Exhausted c.in-Err-Exhausted.number)
          c.requires.resting.quiet (reached.few, omega (arith, reached.above, reached.next), reached.next));
      still = refl;
      unit = refl;
    }

pub returns : goal.returns
returns g c =
    let stripe = c.requires.resting.stripe in
    record {
      continues =
          continues_beside c.args.self.now _ stripe c.reserve.ensures.kept refl
          (λ t h. subst (AreActors t) (sym c.in-Err-Memory.ensures.err) h)
          (spared_more c.args.self.now.units c.args.self.now.flushes _ _ (seen_in c.args.self.now) stripe.spared c.reserve.ensures.same)
          (omega (arith, stripe.readers, c.open_put.ensures.readers)) stripe.ahead;
      adds = tt;
      err = c.reserve.ensures.kept;
      does = c.requires.number;
      still = refl;
      unit = refl;
    }
