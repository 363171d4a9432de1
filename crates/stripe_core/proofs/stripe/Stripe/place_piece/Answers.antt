use Rattle.std.proofs.Common.{◌≡◌, ◌<◌, ◌∙◌, Err, ap, arith, sym, subst, length, true, false}
use Rattle.std.specs.Prelude.{MatchBool, OnOk}
use Rattle.std.proofs.lemmas.Bool.{eq-eqb, ne_eqb}
use Rattle.std.proofs.lemmas.Result.{err_from_is_err_and}
use Rattle.tape_base.specs.Piece.{is_vector}
use Rattle.logged_disk.proofs.GoingOn.{told_before}
use Rattle.cache_model.specs.Kept.{Kept, state_of}
use Rattle.cache_model.specs.Room.{has_room}
use Rattle.cache_model.specs.Contents.{IsToldAs, contents_of_vectors}
use Rattle.piece_answers.specs.Place.{CutsAsAsked, PlacesAsAsked, PlacesVector}
use Rattle.piece_answers.specs.Standing.{IsToldPlaced}
use Rattle.held_pieces.specs.Still.{IsStill}
use Rattle.stripe_core.specs.Calls.{PlacesInStripe}
use Rattle.stripe_core.specs.Stripe.{kept_in, room_for, seen_in}
use Rattle.stripe_core.proofs.Asked.{behind_unit, never_wants}
use Rattle.stripe_core.proofs.Sparing.{answers_map}
use Rattle.stripe_core.proofs.Continuing.{continues_behind, continues_with}
use Rattle.stripe_core.proofs.Stills.{still_as, still_then, still_wanting, wanting_map}
use Rattle.stripe_core.proofs.stripe.Stripe.place_piece.Goals as goal

pub returns-in_err-take_unit : goal.returns-in_err-take_unit
returns-in_err-take_unit g c =
    let wanting = err_from_is_err_and c.from_residual.result c.from_residual.ensures.1 in
    subst
    (PlacesInStripe g.R.Directory.purges c.args.id c.args.pin c.args.start c.args.payload.now c.args.now c.args.self.now
    c.take_unit.new.self)
    (sym (wanting.1 ∙ ap Err wanting.2)) (record {
      continues = continues_with _ _ _ c.take_unit.ensures.continues;
      does = c.take_unit.ensures.records;
      still = λ some. c.take_unit.ensures.still;
      untouched = c.take_unit.ensures.still;
      memory = λ some made. let no : false ≡ true = c.in_err-take_unit.ensures.memory some in cc;
      unit = c.take_unit.ensures.unit;
    })

pub returns-then-id-eq0 : goal.returns-then-id-eq0
returns-then-id-eq0 g c =
    let purges = g.R.Directory.purges in
    let old = kept_in c.args.self.now in
    let taken = kept_in c.take_unit.new.self in
    let new = kept_in c.place_vector.new.self in
    let first = (seen_in c.args.self.now).device.past in
    let before = (seen_in c.take_unit.new.self).device.past in
    let after = (seen_in c.place_vector.new.self).device in
    let id = c.args.id in
    let payload = c.args.payload.now in
    let kind : is_vector id ≡ true = eq-eqb id.index 0 c.if-id-eq0.true in
    let still : IsStill (seen_in c.args.self.now).device after =
    still_then _ _ _ c.take_unit.ensures.still (still_as _ _ c.place_vector.ensures.still) in
    record {
      continues =
          continues_behind (λ s contents. OnOk c.place_vector.result (IsToldPlaced after s id c.args.start payload contents)) _ _ _
          c.take_unit.ensures.continues c.take_unit.ensures.records c.place_vector.ensures.continues;
      does =
          answers_map c.place_vector.result (PlacesVector purges taken new before after.past id c.args.pin c.args.start payload)
          (PlacesAsAsked purges c.args.now old new first after id c.args.pin c.args.start payload) _ _
          (λ r h.
          subst (λ b. MatchBool b (PlacesVector purges old new first after.past id c.args.pin c.args.start payload r)
          (CutsAsAsked purges c.args.now old new first after id c.args.pin c.args.start payload r)) (sym kind)
          (behind_unit (λ k n. PlacesVector purges k new n after.past id c.args.pin c.args.start payload r)
          taken old before first c.take_unit.ensures.records c.take_unit.ensures.still.past h))
          (λ none. absurd none) c.place_vector.ensures.does;
      still = λ some. still;
      untouched = still_wanting c.place_vector.result _ still;
      memory = λ some made. never_wants c.place_vector.result _ c.place_vector.ensures.does;
      unit = omega (arith, c.take_unit.ensures.unit, c.place_vector.ensures.unit);
    }

pub returns-else-id-eq0 : goal.returns-else-id-eq0
returns-else-id-eq0 g c =
    let purges = g.R.Directory.purges in
    let old = kept_in c.args.self.now in
    let taken = kept_in c.take_unit.new.self in
    let new = kept_in c.place_fragment.new.self in
    let first = (seen_in c.args.self.now).device.past in
    let before = (seen_in c.take_unit.new.self).device.past in
    let after = (seen_in c.place_fragment.new.self).device in
    let id = c.args.id in
    let payload = c.args.payload.now in
    let kind : is_vector id ≡ false = ne_eqb id.index 0 c.if-id-eq0.false in
    let still : after ≡ (seen_in c.take_unit.new.self).device → IsStill (seen_in c.args.self.now).device after = λ same.
    still_then _ _ _ c.take_unit.ensures.still (still_as _ _ same) in
    record {
      continues =
          continues_behind (λ s contents. OnOk c.place_fragment.result (IsToldPlaced after s id c.args.start payload contents)) _ _ _
          c.take_unit.ensures.continues c.take_unit.ensures.records c.place_fragment.ensures.continues;
      does =
          answers_map c.place_fragment.result (CutsAsAsked purges c.args.now taken new before after id c.args.pin c.args.start payload)
          (PlacesAsAsked purges c.args.now old new first after id c.args.pin c.args.start payload) _ _
          (λ r h.
          subst (λ b. MatchBool b (PlacesVector purges old new first after.past id c.args.pin c.args.start payload r)
          (CutsAsAsked purges c.args.now old new first after id c.args.pin c.args.start payload r)) (sym kind)
          (behind_unit (λ k n. CutsAsAsked purges c.args.now k new n after id c.args.pin c.args.start payload r)
          taken old before first c.take_unit.ensures.records c.take_unit.ensures.still.past h))
          (λ same. subst (λ k. new ≡ k) c.take_unit.ensures.records same) c.place_fragment.ensures.does;
      still = λ some.
          still (c.place_fragment.ensures.still
          (ap (λ (k : Kept). has_room (state_of k) (length payload)) c.take_unit.ensures.records ∙ some));
      untouched = wanting_map c.place_fragment.result _ _ still c.place_fragment.ensures.untouched;
      memory = λ some made.
          c.place_fragment.ensures.memory (subst (λ a. 0 < room_for id.put a) (sym c.take_unit.ensures.actors) (made kind));
      unit = omega (arith, c.take_unit.ensures.unit, c.place_fragment.ensures.unit);
    }

pub place_vector-requires-clause-spelled : goal.place_vector-requires-clause-spelled
place_vector-requires-clause-spelled g c = λ tells.
    let before = told_before (seen_in c.args.self.now).device (seen_in c.take_unit.new.self).device c.take_unit.ensures.still.goes tells in
    subst (λ k. IsToldAs contents_of_vectors (state_of k) c.args.id c.args.start c.args.payload.now) (sym c.take_unit.ensures.records)
    (c.requires.spelled before)

pub place_vector-requires-clause-taken : goal.place_vector-requires-clause-taken
place_vector-requires-clause-taken g c = record {
  stripe = c.take_unit.ensures.continues.stripe;
  spared = c.in_ok-take_unit.ensures.spared;
}

pub place_fragment-requires-clause-taken : goal.place_fragment-requires-clause-taken
place_fragment-requires-clause-taken g c = record {
  stripe = c.take_unit.ensures.continues.stripe;
  spared = c.in_ok-take_unit.ensures.spared;
}
