use Rattle.std.proofs.Common.{◌∙◌, ap, ◌≡◌, ◌+◌, Ok, Err, sym, subst, refl, arith, true, []}
use Rattle.std.proofs.lemmas.Bool.{eq-eqb}
use Rattle.logged_disk.specs.Device.{TellsAll}
use Rattle.cache_model.specs.State.{State}
use Rattle.cache_model.specs.Kept.{state_of, with_records}
use Rattle.dir_table.specs.Displacement.{purge_of}
use Rattle.tape_base.specs.Piece.{is_vector}
use Rattle.cache_model.specs.Contents.{contents_of_vectors}
use Rattle.piece_answers.specs.Place.{AreOfPlace, PlacesVector}
use Rattle.stripe_pieces.specs.Pieces.{kept_now, seen_now}
use Rattle.stripe_core.specs.Stripe.{AnswersOrWants, flushes_in, kept_in, seen_in, state_in, units_in}
use Rattle.stripe_core.proofs.Between.{between-tells}
use Rattle.piece_answers.proofs.Groups.{no_damage_adds, place_quiet, vector_group}
use Rattle.piece_answers.proofs.Displacing.{displaced_puts, pushed_kinds}
use Rattle.stripe_answers.proofs.Naming.{displaced_leaves, begun_put, named_with, vector_named, vector_new, vector_nowhere}
use Rattle.piece_answers.proofs.RecordsAdded.{state_of-with_records}
use Rattle.stripe_core.proofs.Sparing.{actors_with, answers_stop, made_still, numbered_others, spent_calm, vector_others, vector_state}
use Rattle.stripe_core.proofs.Continuing.{no_less}
use Rattle.piece_answers.proofs.NoneDisplaced.{none_placed, none_with}
use Rattle.stripe_core.proofs.Ready.{ready_with}
use Rattle.piece_answers.proofs.Documents.{documents_placed, documents_stay}
use Rattle.piece_answers.proofs.SyncsLeft.{place_left}
use Rattle.stripe_core.proofs.stripe.Stripe.place_vector.Goals as goal

pub returns-in-Ok : goal.returns-in-Ok
returns-in-Ok g c =
    let purges = g.R.Directory.purges in
    let s = state_in c.args.self.now in
    let kept = kept_in c.args.self.now in
    let id = c.args.id in
    let payload = c.args.payload.now in
    let kind : is_vector id ≡ true = eq-eqb id.index 0 c.requires.kind in
    let places = c.in-Ok.ensures.places in
    let are : AreOfPlace purges s id c.args.pin c.args.start payload places.added = places.are in
    let gone = pushed_kinds purges s id are.displaced are.pushed in
    let others = vector_others purges s id c.args.pin c.args.start payload (Ok c.in-Ok.placed) places.added kind are in
    record {
      continues = record {
        stripe = record {
          pieces = c.place.ensures.keeps.pieces.held;
          actors = actors_with kept _ c.args.self.now.actors places.added places.adds others c.requires.taken.stripe.actors;
          spared = spent_calm (units_in c.args.self.now) (flushes_in c.args.self.now) _ _
              (2 + purge_of (seen_in c.args.self.now).geometry) 1 (seen_in c.args.self.now) (seen_now c.place.new.self)
              c.requires.taken.spared
              c.place.ensures.keeps.uses (omega arith) (omega arith);
          named = vector_named s _ id _ _ c.args.pin _ c.requires.vector.w are.displaced (displaced_leaves are.displaced gone)
              (displaced_puts s are.displaced gone)
              c.requires.taken.stripe.named c.requires.vector.writing.quiet
              (begun_put s c.args.self.now.actors id.put c.requires.vector.w c.requires.taken.stripe.actors c.requires.vector.writing.found)
              c.requires.vector.writing.found (rw c.requires.kind (omega arith))
              (ap state_of places.adds
              ∙ (state_of-with_records kept places.added ∙ vector_state purges s id c.args.pin c.args.start payload places.added are kind));
          readers = c.requires.taken.stripe.readers;
          ahead = made_still s _ (seen_in c.args.self.now) (seen_now c.place.new.self) c.args.self.now.ahead c.requires.taken.stripe.pieces
              c.place.ensures.keeps.pieces.held
              c.place.ensures.keeps.uses.same c.requires.taken.stripe.ahead;
          none = ap (λ (t : State). t.displaced) (ap state_of places.adds ∙ state_of-with_records kept places.added)
              ∙ none_placed purges s id c.args.pin c.args.start payload places.added are;
          vectors = c.in-Ok.ensures.keeps.pieces.contents contents_of_vectors
              (λ tells. c.requires.spelled (subst TellsAll c.place.ensures.keeps.still tells)) c.requires.taken.stripe.vectors;
          documents = documents_placed id c.args.start payload
              (vector_nowhere s id c.args.start payload c.requires.vector kind c.requires.taken.stripe.named)
              (λ tells. (c.requires.spelled (subst TellsAll c.place.ensures.keeps.still tells)).spelled) c.requires.taken.stripe.documents
              c.in-Ok.ensures.keeps.pieces.contents;
          numbered = numbered_others kept _ places.added places.adds others c.requires.taken.stripe.numbered;
        };
        between = between-tells _ _ kept _ places.added c.place.ensures.keeps.still places.adds
            (place_quiet purges s id c.args.pin c.args.start payload (Ok c.in-Ok.placed) places.added are)
            (no_damage_adds purges s id c.args.pin c.args.start payload (Ok c.in-Ok.placed) places.added are)
            (place_left purges s id c.args.pin c.args.start payload (Ok c.in-Ok.placed) places.added are);
        contents = c.in-Ok.ensures.keeps.pieces.contents;
        later = no_less _ _ c.place.ensures.keeps.still;
      };
      does = record {
        places = places;
        does = λ lists p packs covers.
            vector_group p purges s id c.args.pin c.args.start payload (Ok c.in-Ok.placed) places.added packs covers.unsynced lists kind
            c.requires.vector.small
            places.are places.at;
      };
      still = c.place.ensures.keeps.still;
      unit = refl;
    }

pub returns-in-Err : goal.returns-in-Err
returns-in-Err g c =
    let purges = g.R.Directory.purges in
    let s = state_in c.args.self.now in
    let kept = kept_in c.args.self.now in
    let id = c.args.id in
    let payload = c.args.payload.now in
    let kind : is_vector id ≡ true = eq-eqb id.index 0 c.requires.kind in
    let places = c.in-Err.ensures.places in
    let stripe = c.requires.taken.stripe in
    let nothing : kept_now c.place.new.self ≡ with_records kept [] = places.adds ∙ ap (with_records kept) places.are in
    record {
      continues = record {
        stripe = record {
          pieces = c.place.ensures.keeps.pieces.held;
          actors = actors_with kept _ c.args.self.now.actors [] nothing tt stripe.actors;
          spared = spent_calm (units_in c.args.self.now) (flushes_in c.args.self.now) _ _
              (2 + purge_of (seen_in c.args.self.now).geometry) 1 (seen_in c.args.self.now) (seen_now c.place.new.self)
              c.requires.taken.spared
              c.place.ensures.keeps.uses (omega arith) (omega arith);
          named = named_with kept _ [] nothing tt stripe.named;
          readers = stripe.readers;
          ahead = made_still s _ (seen_in c.args.self.now) (seen_now c.place.new.self) c.args.self.now.ahead stripe.pieces
              c.place.ensures.keeps.pieces.held
              c.place.ensures.keeps.uses.same stripe.ahead;
          none = none_with kept _ [] nothing tt stripe.none;
          vectors = c.in-Err.ensures.keeps.pieces.contents contents_of_vectors tt stripe.vectors;
          documents = documents_stay stripe.documents (λ contents. c.in-Err.ensures.keeps.pieces.contents contents tt);
          numbered = numbered_others kept _ [] nothing tt stripe.numbered;
        };
        between = between-tells _ _ kept _ [] c.place.ensures.keeps.still nothing refl tt tt;
        contents = c.in-Err.ensures.keeps.pieces.contents;
        later = no_less _ _ c.place.ensures.keeps.still;
      };
      does =
          let asked =
          PlacesVector purges kept (kept_now c.place.new.self) (seen_in c.args.self.now).device.past (seen_now c.place.new.self).device.past
          id c.args.pin c.args.start payload in
          subst (λ r. AnswersOrWants (Err r) asked ⊥) (sym c.from.ensures)
          (answers_stop c.in-Err.stop asked ⊥ (record {
            places = places;
            does = λ lists p packs covers.
                vector_group p purges s id c.args.pin c.args.start payload (Err c.in-Err.stop) places.added packs covers.unsynced lists kind
                c.requires.vector.small
                places.are places.at;
          }));
      still = c.place.ensures.keeps.still;
      unit = refl;
    }

pub place-requires-clause-fits : goal.place-requires-clause-fits
place-requires-clause-fits g c = record {
  new = vector_new (state_in c.args.self.now) c.args.id c.args.start c.args.payload.now c.requires.vector
      (eq-eqb c.args.id.index 0 c.requires.kind) c.requires.taken.stripe.named;
  room = c.requires.vector.room;
}

pub place-requires-clause-ready : goal.place-requires-clause-ready
place-requires-clause-ready g c =
    let t = c.args.self.now in
    ready_with t.pieces (units_in t) (flushes_in t) _ 1 c.requires.taken.stripe.pieces c.requires.taken.spared (omega arith) (omega arith)
