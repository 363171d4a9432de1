use Rattle.std.specs.Prelude.{nat_lt, Option, Some, option_map, unwrap_or}
use Rattle.std.proofs.Common.{◌≡◌, ◌++◌, Err, sym, ◌∙◌, ap, subst, refl, arith, length, true, false, Ok}
use Rattle.std.proofs.lemmas.Result.{err_from_is_err_and}
use Rattle.cache_model.specs.State.{State, after_all}
use Rattle.cache_model.specs.Kept.{state_of}
use Rattle.cache_model.proofs.Steps.{after_all-append}
use Rattle.cache_model.specs.Contents.{contents_of_vectors}
use Rattle.stripe_actors.specs.Actors.{AreActors}
use Rattle.piece_answers.specs.declared.answer.Placed.{Placed}
use Rattle.piece_answers.specs.Place.{CutsAsAsked, IsCutAs, IsStoppedAs}
use Rattle.stripe_pieces.specs.Pieces.{kept_now, seen_now}
use Rattle.stripe_core.specs.Stripe.{AnswersOrWants, HasMemory, Wanting, flushes_in, kept_in, seen_in, state_in, units_in}
use Rattle.stripe_core.proofs.Asked.{stop_has_memory, stop_wants_none}
use Rattle.piece_answers.proofs.RecordsAdded.{state_of-with_records}
use Rattle.piece_answers.proofs.Displacing.{displaced_puts, pushed_kinds}
use Rattle.stripe_answers.proofs.Naming.{displaced_leaves, begun_put, flush_leaves, fragment_named, fragment_new, fragment_nowhere, named_with}
use Rattle.stripe_core.proofs.Sparing.{actors_with, answers_stop, flush_is_others, fragment_actors, fragment_readers, made_still, no_vector_id, numbered_by, numbered_others, placed_state, room_for_it, spent_by}
use Rattle.stripe_core.proofs.Between.{between-adds}
use Rattle.stripe_core.proofs.Continuing.{continues_beside, continues_with}
use Rattle.piece_answers.proofs.NoneDisplaced.{flush_displaces, none_placed, none_with, told_fragment}
use Rattle.stripe_core.proofs.Ready.{ready_to_flush}
use Rattle.stripe_core.proofs.Stills.{still_wanting}
use Rattle.piece_answers.proofs.Documents.{documents_placed, documents_stay}
use Rattle.cache_model.specs.State.{PutRow}
use Rattle.cache_model.specs.Verdict.{is_open}
use Rattle.stripe_actors.proofs.Telling.{writing_is_open}
use Rattle.power_cuts.specs.Surviving.{LeaveCopies}
use Rattle.piece_answers.proofs.SyncsLeft.{cut_or_stop_left, flush_left}
use Rattle.stripe_core.proofs.stripe.Stripe.place_fragment.Goals as goal

-- the put of a fragment that comes next is open
pub cut-requires-clause-open : goal.cut-requires-clause-open
cut-requires-clause-open g c =
    let s = state_in c.args.self.now in
    let row : PutRow = c.requires.fragment.w in
    let writing = c.requires.fragment.next.writing in
    writing_is_open s _ (c.reserve_cut.ensures.step s c.requires.taken.stripe.actors) c.args.id.put
    ∙ (ap (λ (o : Option PutRow). unwrap_or (option_map is_open o) false) writing.found ∙ rw writing.is_open refl)

pub returns-in_err-reserve_cut : goal.returns-in_err-reserve_cut
returns-in_err-reserve_cut g c =
    let kept = kept_in c.args.self.now in
    let before = seen_in c.args.self.now in
    let stripe = c.requires.taken.stripe in
    let wanting = err_from_is_err_and c.from_residual.result c.from_residual.ensures.1 in
    let cuts =
    CutsAsAsked g.R.Directory.purges c.args.now kept kept before.device.past before.device c.args.id c.args.pin c.args.start
    c.args.payload.now in
    record {
      continues =
          continues_with _ _ _
          (continues_beside c.args.self.now _ stripe refl refl c.reserve_cut.ensures.step stripe.spared
          (omega (arith, stripe.readers, c.reserve_cut.ensures.readers)) stripe.ahead);
      does = subst (λ r. AnswersOrWants r cuts (kept ≡ kept)) (sym (wanting.1 ∙ ap Err wanting.2)) refl;
      still = λ some. refl;
      untouched = still_wanting c.from_residual.result _ refl;
      memory = λ some. let no : false ≡ true = c.in_err-reserve_cut.ensures.reserved some in cc;
      unit = refl;
    }

pub returns-in-Ok : goal.returns-in-Ok
returns-in-Ok g c =
    let purges = g.R.Directory.purges in
    let s = state_in c.args.self.now in
    let kept = kept_in c.args.self.now in
    let new = kept_now c.place_fragment.new.self in
    let before = seen_in c.args.self.now in
    let after = seen_now c.place_fragment.new.self in
    let id = c.args.id in
    let payload = c.args.payload.now in
    let kind = no_vector_id s id c.args.pin c.args.start payload c.requires.fragment in
    let does = c.in-Ok.ensures.does in
    let shape : IsCutAs purges s id c.args.pin c.args.start payload does.added c.in-Ok.placed = does.shape in
    let gone = pushed_kinds purges (after_all s shape.room) id shape.are.displaced shape.are.pushed in
    let behind : state_of new ≡ after_all s (shape.room ++ shape.piece) =
    ap state_of does.adds ∙ (state_of-with_records kept does.added ∙ ap (after_all s) shape.is) in
    record {
      continues = record {
        stripe = record {
          pieces = c.place_fragment.ensures.keeps.pieces.held;
          actors = subst (λ t. AreActors t c.cut.new.self) (sym behind)
              (fragment_actors purges s id c.args.pin c.args.start payload shape.room shape.piece shape.kinds kind shape.are
              c.reserve_cut.new.self c.cut.new.self c.in-Ok.placed.payload shape.payload_is c.cut.ensures.cuts
              (c.reserve_cut.ensures.step s c.requires.taken.stripe.actors));
          spared = spent_by (nat_lt c.room.result c.blocks_of.result) (units_in c.args.self.now) (flushes_in c.args.self.now)
              c.one_where.result _ _ _ _ before after
              c.one_where.ensures c.requires.taken.spared c.place_fragment.ensures.keeps.uses (omega arith) (omega arith)
              (λ none. c.place_fragment.ensures.keeps.still
              (room_for_it s before (length payload) c.blocks_of.result c.room.result c.requires.taken.stripe.pieces c.blocks_of.ensures
              c.room.ensures none));
          named =
              fragment_named s _ id _ _ c.args.pin c.args.start _ payload shape.room shape.are.displaced _ _ c.requires.fragment shape.kinds
              (displaced_leaves shape.are.displaced gone)
              (λ t. displaced_puts t shape.are.displaced gone) c.requires.taken.stripe.named
              (begun_put s c.args.self.now.actors id.put c.requires.fragment.w c.requires.taken.stripe.actors
              c.requires.fragment.next.writing.found)
              (behind ∙ placed_state purges s id c.args.pin c.args.start payload shape.room shape.piece shape.kinds kind shape.are);
          readers = omega (arith, c.requires.taken.stripe.readers, c.reserve_cut.ensures.readers, c.cut.ensures.readers);
          ahead = made_still s _ before after c.place_fragment.new.ahead c.requires.taken.stripe.pieces
              c.place_fragment.ensures.keeps.pieces.held
              c.place_fragment.ensures.keeps.uses.same c.place_fragment.ensures.keeps.ahead;
          none = ap (λ (t : State). t.displaced) (behind ∙ after_all-append s shape.room shape.piece)
              ∙ none_placed purges (after_all s shape.room) id c.args.pin c.args.start payload shape.piece shape.are;
          vectors = c.in-Ok.ensures.keeps.pieces.contents contents_of_vectors
              (λ tells. told_fragment s id c.args.start payload kind) c.requires.taken.stripe.vectors;
          documents = documents_placed id c.args.start payload
              (fragment_nowhere s id c.args.pin c.args.start payload c.requires.fragment c.requires.taken.stripe.named)
              (λ tells. (told_fragment s id c.args.start payload kind).spelled) c.requires.taken.stripe.documents
              c.in-Ok.ensures.keeps.pieces.contents;
          numbered =
              let same : (state_of new).next_reader ≡ s.next_reader =
              ap (λ (t : State). t.next_reader) behind ∙ fragment_readers purges s id c.args.pin c.args.start payload shape.room shape.piece
              shape.kinds kind shape.are in
              numbered_by kept new does.added 0 does.adds (omega (arith, same)) (omega arith) c.requires.taken.stripe.numbered;
        };
        between = between-adds _ _ kept _ does.added does.adds c.place_fragment.ensures.keeps.uses.goes does.faults does.unharmed
            (subst (λ h. LeaveCopies h before.device.past after.device.past) c.requires.taken.stripe.pieces.geometry c.place_fragment.ensures.keeps.uses.leaves)
            (cut_or_stop_left purges s after.device.faults id c.args.pin c.args.start payload does.added (Ok c.in-Ok.placed) does.shape);
        contents = c.in-Ok.ensures.keeps.pieces.contents;
        later = c.place_fragment.ensures.keeps.uses.later;
      };
      does = does;
      still = c.place_fragment.ensures.keeps.still;
      untouched = tt;
      memory = λ some. tt;
      unit = refl;
    }

pub returns-in-Err : goal.returns-in-Err
returns-in-Err g c =
    let s = state_in c.args.self.now in
    let kept = kept_in c.args.self.now in
    let before = seen_in c.args.self.now in
    let after = seen_now c.place_fragment.new.self in
    let payload = c.args.payload.now in
    let does = c.in-Err.ensures.does in
    let shape : IsStoppedAs s after.device.faults payload does.added c.in-Err.stop = does.shape in
    let others = flush_is_others does.added shape.kinds in
    let new = kept_now c.place_fragment.new.self in
    record {
      continues = record {
        stripe = record {
          pieces = c.place_fragment.ensures.keeps.pieces.held;
          actors = actors_with kept _ c.reserve_cut.new.self does.added does.adds others
              (c.reserve_cut.ensures.step s c.requires.taken.stripe.actors);
          spared = spent_by (nat_lt c.room.result c.blocks_of.result) (units_in c.args.self.now) (flushes_in c.args.self.now)
              c.one_where.result _ _ _ _ before after
              c.one_where.ensures c.requires.taken.spared c.place_fragment.ensures.keeps.uses (omega arith) (omega arith)
              (λ none. c.place_fragment.ensures.keeps.still
              (room_for_it s before (length payload) c.blocks_of.result c.room.result c.requires.taken.stripe.pieces c.blocks_of.ensures
              c.room.ensures none));
          named = named_with kept _ does.added does.adds (flush_leaves does.added shape.kinds) c.requires.taken.stripe.named;
          readers = omega (arith, c.requires.taken.stripe.readers, c.reserve_cut.ensures.readers);
          ahead = made_still s _ before after c.place_fragment.new.ahead c.requires.taken.stripe.pieces
              c.place_fragment.ensures.keeps.pieces.held
              c.place_fragment.ensures.keeps.uses.same c.place_fragment.ensures.keeps.ahead;
          none = none_with kept _ does.added does.adds (flush_displaces does.added shape.kinds) c.requires.taken.stripe.none;
          vectors = c.in-Err.ensures.keeps.pieces.contents contents_of_vectors tt c.requires.taken.stripe.vectors;
          documents = documents_stay c.requires.taken.stripe.documents (λ contents. c.in-Err.ensures.keeps.pieces.contents contents tt);
          numbered = numbered_others kept _ does.added does.adds others c.requires.taken.stripe.numbered;
        };
        between = between-adds _ _ kept _ does.added does.adds c.place_fragment.ensures.keeps.uses.goes does.faults does.unharmed
            (subst (λ h. LeaveCopies h before.device.past after.device.past) c.requires.taken.stripe.pieces.geometry c.place_fragment.ensures.keeps.uses.leaves)
            (flush_left does.added shape.kinds);
        contents = c.in-Err.ensures.keeps.pieces.contents;
        later = c.place_fragment.ensures.keeps.uses.later;
      };
      does =
          let cuts =
          CutsAsAsked g.R.Directory.purges c.args.now kept new before.device.past after.device c.args.id c.args.pin c.args.start payload in
          subst (λ r. AnswersOrWants (Err r) cuts (new ≡ kept)) (sym c.from.ensures) (answers_stop c.in-Err.stop cuts (new ≡ kept) does);
      still = c.place_fragment.ensures.keeps.still;
      untouched =
          subst (λ r. Wanting {X = Placed} (Err r) (after.device ≡ before.device)) (sym c.from.ensures)
          (stop_wants_none Placed c.in-Err.stop (after.device ≡ before.device));
      memory = λ some. subst (λ r. HasMemory {X = Placed} (Err r)) (sym c.from.ensures) (stop_has_memory Placed c.in-Err.stop);
      unit = refl;
    }

pub place_fragment-requires-clause-new : goal.place_fragment-requires-clause-new
place_fragment-requires-clause-new g c =
    fragment_new (state_in c.args.self.now) c.args.id c.args.pin c.args.start c.args.payload.now c.requires.fragment
    c.requires.taken.stripe.named

pub place_fragment-requires-clause-ready : goal.place_fragment-requires-clause-ready
place_fragment-requires-clause-ready g c =
    let t = c.args.self.now in
    let stripe = c.requires.taken.stripe in
    ready_to_flush t.pieces (units_in t) (flushes_in t) _ _ stripe.pieces c.requires.taken.spared (omega arith) (omega arith)
    c.reserve_cut.new.self t.ahead
    (c.reserve_cut.ensures.step (state_in t) stripe.actors) stripe.ahead
