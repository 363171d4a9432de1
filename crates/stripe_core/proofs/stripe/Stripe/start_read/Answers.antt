use Rattle.std.proofs.Common.{◌≡◌, sym, ◌∙◌, ap, subst, refl, arith, [], ◌∷◌, true, false}
use Rattle.std.proofs.lemmas.Result.{IfOk-from_err, err_from_is_err_and}
use Rattle.std.specs.Prelude.{OnErr}
use Rattle.cache_model.specs.declared.record.Rec.TheVariants as rec
use Rattle.cache_model.specs.State.{state_after}
use Rattle.cache_model.specs.Kept.{Kept, state_of, with_records}
use Rattle.cache_model.specs.Contents.{contents_of_vectors}
use Rattle.stripe_actors.specs.Actors.{AreActors}
use Rattle.stripe_answers.specs.Acts.{IsFollowable}
use Rattle.stripe_core.specs.Calls.{StartsReadInStripe}
use Rattle.stripe_core.specs.Stripe.{flushes_in, kept_in, seen_in, state_in, units_in}
use Rattle.piece_answers.proofs.RecordsAdded.{state_of-with_records}
use Rattle.stripe_core.proofs.Doings.{LeavesPieces, held_behind, looks, reader_behind, standing_behind}
use Rattle.stripe_answers.proofs.Naming.{name_left, named_behind}
use Rattle.stripe_core.proofs.Sparing.{made_behind, numbered_by, one_told}
use Rattle.stripe_core.proofs.Between.{between-tells, between-trans}
use Rattle.stripe_core.proofs.Continuing.{continues_beside, continues_then}
use Rattle.piece_answers.proofs.NoneDisplaced.{none_behind}
use Rattle.piece_answers.proofs.Documents.{documents_stay}
use Rattle.stripe_core.proofs.stripe.Stripe.start_read.Goals as goal

pub returns-in_err-take_unit : goal.returns-in_err-take_unit
returns-in_err-take_unit g c =
    let wanting = err_from_is_err_and c.from_residual.result c.from_residual.ensures.1 in
    subst (StartsReadInStripe c.args.actor c.args.key c.args.request c.args.answer c.args.self.now c.take_unit.new.self) (sym wanting.1)
    (record {
      continues = c.take_unit.ensures.continues;
      adds = tt;
      reader = tt;
      does = tt;
      err = c.take_unit.ensures.records;
      still = c.take_unit.ensures.still;
      memory = c.in_err-take_unit.ensures.memory;
      unit = c.take_unit.ensures.unit;
    })

pub returns-in_err-reader : goal.returns-in_err-reader
returns-in_err-reader g c =
    let result = c.from_residual-in_err-reader.result in
    let wanting = err_from_is_err_and c.from_residual-in_err-reader.result c.from_residual-in_err-reader.ensures.1 in
    let stripe = c.take_unit.ensures.continues.stripe in
    record {
      continues =
          continues_then _ _ _ c.take_unit.ensures.continues
          (continues_beside c.take_unit.new.self _ stripe refl refl c.in_err-reader.ensures.err stripe.spared
          (omega (arith, c.in_ok-take_unit.ensures.readers, c.answer_lookup.ensures.room)) stripe.ahead);
      adds = IfOk-from_err result _ c.from_residual-in_err-reader.ensures.0;
      reader = IfOk-from_err result _ c.from_residual-in_err-reader.ensures.0;
      does = IfOk-from_err result _ c.from_residual-in_err-reader.ensures.0;
      err = subst (λ r. OnErr r (kept_in c.take_unit.new.self ≡ kept_in c.args.self.now)) (sym wanting.1) c.take_unit.ensures.records;
      still = c.take_unit.ensures.still;
      memory = λ some. let no : false ≡ true = c.in_err-reader.ensures.reserved (omega (arith, c.in_ok-take_unit.ensures.readers)) in cc;
      unit = c.take_unit.ensures.unit;
    }

pub returns : goal.returns
returns g c =
    let s = state_in c.args.self.now in
    let taken = state_in c.take_unit.new.self in
    let kept = kept_in c.take_unit.new.self in
    let told = rec.ReadOpened c.in_ok-reader.reader c.args.actor c.args.key c.args.request c.args.answer in
    let after = g.C.Chronicle.kept c.read_opened.new.chronicle in
    let follows : IsFollowable taken c.args.answer =
    subst (λ t. IsFollowable t c.args.answer) (sym (ap state_of c.take_unit.ensures.records)) c.requires.follows in
    let number : c.in_ok-reader.reader ≡ taken.next_reader =
    c.in_ok-reader.ensures.number ∙ c.take_unit.ensures.continues.stripe.actors.next_reader in
    let reader = reader_behind kept after told c.read_opened.ensures.kept in
    let leaves : LeavesPieces taken (state_after taken told) =
    record { geometry = refl; cursor = refl; filled = refl; rows = refl; fault = refl } in
    record {
      continues = record {
        stripe = record {
          pieces = held_behind kept after (seen_in c.take_unit.new.self) told c.read_opened.ensures.kept tt leaves
              c.take_unit.ensures.continues.stripe.pieces;
          actors = subst (λ t. AreActors t c.answer_lookup.new.actors)
              (sym (ap state_of c.read_opened.ensures.kept ∙ state_of-with_records kept (told ∷ [])))
              (c.in_ok-reader.ensures.keeps taken c.args.actor c.args.key c.args.request follows
              c.take_unit.ensures.continues.stripe.actors);
          spared = one_told (units_in c.take_unit.new.self) (flushes_in c.take_unit.new.self) _ _ (seen_in c.take_unit.new.self)
              c.in_ok-take_unit.ensures.spared c.read_opened.ensures.room;
          named = named_behind kept after told c.read_opened.ensures.kept
              (name_left taken told refl c.take_unit.ensures.continues.stripe.named);
          readers = omega (arith, c.in_ok-take_unit.ensures.readers, c.answer_lookup.ensures.room);
          ahead = made_behind kept after told c.take_unit.new.self.ahead c.read_opened.ensures.kept refl
              c.take_unit.ensures.continues.stripe.ahead;
          none = none_behind kept after told c.read_opened.ensures.kept refl c.take_unit.ensures.continues.stripe.none;
          vectors = standing_behind kept after (seen_in c.take_unit.new.self) told c.read_opened.ensures.kept tt leaves
              c.take_unit.ensures.continues.stripe.pieces contents_of_vectors tt c.take_unit.ensures.continues.stripe.vectors;
          documents = documents_stay c.take_unit.ensures.continues.stripe.documents
              (λ contents. standing_behind kept after (seen_in c.take_unit.new.self) told c.read_opened.ensures.kept tt leaves
              c.take_unit.ensures.continues.stripe.pieces contents tt);
          numbered = numbered_by kept after (told ∷ []) 1 c.read_opened.ensures.kept (omega (arith, reader, number)) (omega arith)
              c.take_unit.ensures.continues.stripe.numbered;
        };
        between = between-trans _ _ _ _ _ _ c.take_unit.ensures.continues.between
            (between-tells (seen_in c.take_unit.new.self).device _ kept after (told ∷ []) refl c.read_opened.ensures.kept refl (refl, tt) (refl, tt));
        contents = λ contents any stands.
            standing_behind kept after (seen_in c.take_unit.new.self) told c.read_opened.ensures.kept tt leaves
            c.take_unit.ensures.continues.stripe.pieces contents any
            (c.take_unit.ensures.continues.contents contents any stands);
        later = omega (arith, c.take_unit.ensures.continues.later);
      };
      adds = c.read_opened.ensures.kept ∙ ap (λ (k : Kept). with_records k (told ∷ [])) c.take_unit.ensures.records;
      reader = number ∙ ap (λ (k : Kept). (state_of k).next_reader) c.take_unit.ensures.records;
      does = looks s c.args.actor c.args.key c.args.request c.args.answer;
      err = tt;
      still = c.take_unit.ensures.still;
      memory = λ some. refl;
      unit = c.take_unit.ensures.unit;
    }
