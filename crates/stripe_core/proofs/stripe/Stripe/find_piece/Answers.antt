use Rattle.std.proofs.Common.{◌++◌, sym, ◌∙◌, ap, subst, refl, arith}
use Rattle.std.proofs.lemmas.Result.{err_from_is_err_and}
use Rattle.cache_model.specs.Given.{effects_told}
use Rattle.cache_model.specs.Contents.{contents_of_vectors}
use Rattle.piece_answers.specs.Covers.{Covers}
use Rattle.piece_answers.specs.Faults.{HasEffects}
use Rattle.cache_model.specs.Kept.{Kept, state_of, with_records}
use Rattle.piece_answers.specs.Find.{Finds, find_adds}
use Rattle.stripe_pieces.specs.Pieces.{seen_now}
use Rattle.piece_answers.specs.Standing.{AreStanding}
use Rattle.stripe_core.specs.Calls.{FindsInStripe}
use Rattle.stripe_core.specs.Stripe.{flushes_in, kept_in, room_for, seen_in, state_in, units_in}
use Rattle.stripe_core.proofs.Sparing.{actors_with, find_are_others, made_still, numbered_others, spent_calm}
use Rattle.stripe_answers.proofs.Naming.{find_leaves, named_with}
use Rattle.logged_disk.proofs.GoingOn.{goes_further}
use Rattle.stripe_core.proofs.Between.{between-adds, between-trans}
use Rattle.piece_answers.proofs.NoneDisplaced.{find_displaces, none_with}
use Rattle.stripe_core.proofs.Ready.{ready_with}
use Rattle.stripe_core.proofs.Stills.{still_shows}
use Rattle.piece_answers.proofs.Documents.{documents_stay}
use Rattle.power_cuts.specs.Surviving.{LeaveCopies}
use Rattle.piece_answers.proofs.SyncsLeft.{find_left}
use Rattle.stripe_core.proofs.stripe.Stripe.find_piece.Goals as goal

pub returns-in_err-take_unit : goal.returns-in_err-take_unit
returns-in_err-take_unit g c =
    let wanting = err_from_is_err_and c.from_residual.result c.from_residual.ensures.1 in
    subst (λ r. FindsInStripe c.args.id c.args.self.now c.take_unit.new.self r c.args.into.now) (sym wanting.1) (record {
      continues = c.take_unit.ensures.continues;
      adds = tt;
      finds = tt;
      err = c.take_unit.ensures.records;
      unwritten = still_shows _ _ c.take_unit.ensures.still;
      untouched = c.take_unit.ensures.still;
      row = λ put. ap (room_for put) c.take_unit.ensures.actors;
      memory = c.in_err-take_unit.ensures.memory;
      unit = c.take_unit.ensures.unit;
    })

pub returns : goal.returns
returns g c =
    let taken = state_in c.take_unit.new.self in
    let kept = kept_in c.take_unit.new.self in
    let adds = find_adds taken c.args.id c.find.result in
    record {
      continues = record {
        stripe = record {
          pieces = c.find.ensures.pieces.held;
          actors = actors_with kept _ c.take_unit.new.self.actors adds c.find.ensures.adds (find_are_others taken c.args.id c.find.result)
              c.take_unit.ensures.continues.stripe.actors;
          spared = spent_calm (units_in c.take_unit.new.self) (flushes_in c.take_unit.new.self) _ _ 1 0 (seen_in c.take_unit.new.self)
              (seen_now c.find.new.self)
              c.in_ok-take_unit.ensures.spared c.find.ensures.uses (omega arith) (omega arith);
          named = named_with kept _ adds c.find.ensures.adds (find_leaves taken c.args.id c.find.result)
              c.take_unit.ensures.continues.stripe.named;
          readers = c.take_unit.ensures.continues.stripe.readers;
          ahead = made_still taken _ (seen_in c.take_unit.new.self) (seen_now c.find.new.self) c.take_unit.new.self.ahead
              c.take_unit.ensures.continues.stripe.pieces c.find.ensures.pieces.held c.find.ensures.uses.same
              c.take_unit.ensures.continues.stripe.ahead;
          none = none_with kept _ adds c.find.ensures.adds (find_displaces taken c.args.id c.find.result)
              c.take_unit.ensures.continues.stripe.none;
          vectors = c.find.ensures.pieces.contents contents_of_vectors tt c.take_unit.ensures.continues.stripe.vectors;
          documents = documents_stay c.take_unit.ensures.continues.stripe.documents (λ contents. c.find.ensures.pieces.contents contents tt);
          numbered = numbered_others kept _ adds c.find.ensures.adds (find_are_others taken c.args.id c.find.result)
              c.take_unit.ensures.continues.stripe.numbered;
        };
        between = between-trans _ _ _ _ _ _ c.take_unit.ensures.continues.between
            (between-adds _ _ kept _ adds c.find.ensures.adds c.find.ensures.uses.goes c.find.ensures.finds.faults c.find.ensures.unharmed
            (subst (λ h. LeaveCopies h (seen_in c.take_unit.new.self).device.past (seen_now c.find.new.self).device.past)
            c.take_unit.ensures.continues.stripe.pieces.geometry c.find.ensures.uses.leaves)
            (find_left taken c.args.id c.find.result));
        contents = λ contents told stands.
            c.find.ensures.pieces.contents contents tt (c.take_unit.ensures.continues.contents contents tt stands);
        later = omega (arith, c.take_unit.ensures.continues.later, c.find.ensures.uses.later);
      };
      adds = c.find.ensures.adds ∙ ap (λ (k : Kept). with_records k (find_adds (state_of k) c.args.id c.find.result))
          c.take_unit.ensures.records;
      finds =
          let s = state_in c.args.self.now in
          let finds = c.find.ensures.finds in
          let before = seen_in c.take_unit.new.self in
          let moved : Finds s before (seen_now c.find.new.self) c.args.id c.find.result c.find.new.into =
          subst (λ t. Finds t before (seen_now c.find.new.self) c.args.id c.find.result c.find.new.into)
          (ap state_of c.take_unit.ensures.records) finds in
          record {
            seen = λ made is. moved.seen made (is ∙ ap (λ calls. made ++ calls) (sym c.take_unit.ensures.still.past));
            faults = subst (λ calls. HasEffects calls (seen_now c.find.new.self).device.past
                (effects_told (find_adds s c.args.id c.find.result))) c.take_unit.ensures.still.past moved.faults;
            counted = moved.counted;
            contents = λ tells contents stands.
                moved.contents tells contents
                (subst (λ t. AreStanding contents t before) (ap state_of c.take_unit.ensures.records)
                (c.take_unit.ensures.continues.contents contents tt stands));
            answers = λ p covers. moved.answers p
                (subst (λ calls. Covers p calls (seen_now c.find.new.self).device.past) (sym c.take_unit.ensures.still.past) covers);
          };
      err = tt;
      unwritten = record {
        goes = goes_further _ _ _ c.take_unit.ensures.still.goes c.find.ensures.unwritten.goes;
        seen = λ j. c.find.ensures.unwritten.seen j ∙ c.take_unit.ensures.still.seen j;
      };
      untouched = tt;
      row = λ put. ap (room_for put) c.take_unit.ensures.actors;
      memory = λ some. refl;
      unit = c.take_unit.ensures.unit;
    }

pub find-requires-clause-ready : goal.find-requires-clause-ready
find-requires-clause-ready g c =
    let t = c.take_unit.new.self in
    ready_with t.pieces (units_in t) (flushes_in t) 1 0 c.take_unit.ensures.continues.stripe.pieces c.in_ok-take_unit.ensures.spared
    (omega arith) (omega arith)
