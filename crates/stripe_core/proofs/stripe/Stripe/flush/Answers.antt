use Rattle.std.specs.Prelude.{IfErr, nat_lt}
use Rattle.std.proofs.Common.{◌≡◌, ◌∙◌, Ok, Err, inl, inr, ap, subst, sym, arith, true, false}
use Rattle.std.proofs.lemmas.Result.{err_from_is_err_and}
use Rattle.cache_model.specs.Kept.{Kept, state_of}
use Rattle.cache_model.specs.Room.{is_flush_exhausted}
use Rattle.cache_model.specs.Contents.{contents_of_vectors}
use Rattle.cache_answers.specs.declared.answers.Flushed.{Flushed}
use Rattle.piece_answers.specs.Flush.{FlushesAsAsked, StopsWith, TellsFlush, WritesNothing}
use Rattle.stripe_pieces.specs.Pieces.{kept_now, seen_now, state_now}
use Rattle.held_pieces.specs.Still.{IsStill}
use Rattle.stripe_core.specs.Calls.{FlushesInStripe}
use Rattle.stripe_core.specs.Stripe.{AnswersOrWants, HasMemory, Wanting, flushes_in, kept_in, room_for, seen_in, state_in, units_in}
use Rattle.stripe_core.proofs.Asked.{behind_unit, stop_has_memory, stop_wants_none}
use Rattle.stripe_answers.proofs.Naming.{flush_leaves, named_with}
use Rattle.stripe_core.proofs.Sparing.{actors_with, answers_stop, flush_is_others, made_still, nothing_in_buffer, numbered_others, spent_by}
use Rattle.stripe_core.proofs.Between.{between-adds, between-trans}
use Rattle.piece_answers.proofs.NoneDisplaced.{flush_displaces, none_with}
use Rattle.stripe_core.proofs.Ready.{ready_to_flush}
use Rattle.stripe_core.proofs.Stills.{still_as, still_then}
use Rattle.piece_answers.proofs.Documents.{documents_stay}
use Rattle.power_cuts.specs.Surviving.{LeaveCopies}
use Rattle.piece_answers.proofs.SyncsLeft.{flush_left}
use Rattle.stripe_core.proofs.stripe.Stripe.flush.Goals as goal

pub returns-in_err-take_unit : goal.returns-in_err-take_unit
returns-in_err-take_unit g c =
    let wanting = err_from_is_err_and c.from_residual.result c.from_residual.ensures.1 in
    subst (FlushesInStripe c.args.now c.args.self.now c.take_unit.new.self) (sym (wanting.1 ∙ ap Err wanting.2)) (record {
      continues = c.take_unit.ensures.continues;
      does = c.take_unit.ensures.records;
      row = λ put. ap (room_for put) c.take_unit.ensures.actors;
      tells = tt;
      room = tt;
      stops = tt;
      still = λ empty. c.take_unit.ensures.still;
      ended = λ full. c.take_unit.ensures.still;
      untouched = c.take_unit.ensures.still;
      memory = λ some. let no : false ≡ true = c.in_err-take_unit.ensures.memory some in cc;
      unit = c.take_unit.ensures.unit;
    })

pub returns-in-Ok : goal.returns-in-Ok
returns-in-Ok g c =
    let old = kept_in c.args.self.now in
    let first = (seen_in c.args.self.now).device.past in
    let taken = state_in c.take_unit.new.self in
    let kept = kept_in c.take_unit.new.self in
    let before = seen_in c.take_unit.new.self in
    let after = seen_now c.flush.new.self in
    let does = c.in-Ok.ensures.does in
    let others = flush_is_others does.added does.kinds in
    let records = c.take_unit.ensures.records in
    let still : WritesNothing taken → IsStill (seen_in c.args.self.now).device after.device = λ idle.
    still_then _ _ _ c.take_unit.ensures.still (still_as _ _ (c.flush.ensures.keeps.still idle)) in
    record {
      continues = record {
        stripe = record {
          pieces = c.flush.ensures.keeps.pieces.held;
          actors = actors_with kept _ c.take_unit.new.self.actors does.added does.adds others c.take_unit.ensures.continues.stripe.actors;
          spared = spent_by (nat_lt c.cursor.result c.next_place.result) (units_in c.take_unit.new.self) (flushes_in c.take_unit.new.self)
              c.one_where.result _ _ _ _ before after
              c.one_where.ensures c.in_ok-take_unit.ensures.spared c.flush.ensures.keeps.uses (omega arith) (omega arith)
              (λ none. c.flush.ensures.keeps.still
              (inl (nothing_in_buffer taken before c.cursor.result c.next_place.result c.take_unit.ensures.continues.stripe.pieces
              c.cursor.ensures c.next_place.ensures none)));
          named = named_with kept _ does.added does.adds (flush_leaves does.added does.kinds) c.take_unit.ensures.continues.stripe.named;
          readers = c.take_unit.ensures.continues.stripe.readers;
          ahead = made_still taken _ before after c.flush.new.ahead c.take_unit.ensures.continues.stripe.pieces
              c.flush.ensures.keeps.pieces.held c.flush.ensures.keeps.uses.same c.flush.ensures.keeps.ahead;
          none = none_with kept _ does.added does.adds (flush_displaces does.added does.kinds) c.take_unit.ensures.continues.stripe.none;
          vectors = c.flush.ensures.keeps.pieces.contents contents_of_vectors tt c.take_unit.ensures.continues.stripe.vectors;
          documents = documents_stay c.take_unit.ensures.continues.stripe.documents
              (λ contents. c.flush.ensures.keeps.pieces.contents contents tt);
          numbered = numbered_others kept _ does.added does.adds others c.take_unit.ensures.continues.stripe.numbered;
        };
        between = between-trans _ _ _ _ _ _ c.take_unit.ensures.continues.between
            (between-adds _ _ kept _ does.added does.adds c.flush.ensures.keeps.uses.goes does.faults does.unharmed
            (subst (λ h. LeaveCopies h before.device.past after.device.past) c.take_unit.ensures.continues.stripe.pieces.geometry c.flush.ensures.keeps.uses.leaves)
            (flush_left does.added does.kinds));
        contents = λ contents told stands.
            c.flush.ensures.keeps.pieces.contents contents tt (c.take_unit.ensures.continues.contents contents tt stands);
        later = omega (arith, c.take_unit.ensures.continues.later, c.flush.ensures.keeps.uses.later);
      };
      does =
          behind_unit (λ k n. FlushesAsAsked c.args.now k (kept_now c.flush.new.self) n after.device (Ok c.in-Ok.flushed)) kept old
          before.device.past first
          records c.take_unit.ensures.still.past does;
      row = λ put. ap (room_for put) c.take_unit.ensures.actors;
      tells = subst (λ t. TellsFlush t (state_now c.flush.new.self) c.in-Ok.flushed) (ap state_of records) c.in-Ok.ensures.answers.tells;
      room = c.in-Ok.ensures.answers.room;
      stops = tt;
      still = λ empty. still (inl (ap (λ (k : Kept). (state_of k).filled) records ∙ empty));
      ended = λ full. still (inr (ap (λ (k : Kept). is_flush_exhausted (state_of k)) records ∙ full));
      untouched = tt;
      memory = λ some. tt;
      unit = c.take_unit.ensures.unit;
    }

pub returns-in-Err : goal.returns-in-Err
returns-in-Err g c =
    let s = state_in c.args.self.now in
    let old = kept_in c.args.self.now in
    let first = (seen_in c.args.self.now).device.past in
    let taken = state_in c.take_unit.new.self in
    let kept = kept_in c.take_unit.new.self in
    let before = seen_in c.take_unit.new.self in
    let after = seen_now c.flush.new.self in
    let does = c.in-Err.ensures.does in
    let others = flush_is_others does.added does.kinds in
    let new = kept_now c.flush.new.self in
    let device = after.device in
    let faults = device.faults in
    let records = c.take_unit.ensures.records in
    let still : WritesNothing taken → IsStill (seen_in c.args.self.now).device after.device = λ idle.
    still_then _ _ _ c.take_unit.ensures.still (still_as _ _ (c.flush.ensures.keeps.still idle)) in
    record {
      continues = record {
        stripe = record {
          pieces = c.flush.ensures.keeps.pieces.held;
          actors = actors_with kept _ c.take_unit.new.self.actors does.added does.adds others c.take_unit.ensures.continues.stripe.actors;
          spared = spent_by (nat_lt c.cursor.result c.next_place.result) (units_in c.take_unit.new.self) (flushes_in c.take_unit.new.self)
              c.one_where.result _ _ _ _ before after
              c.one_where.ensures c.in_ok-take_unit.ensures.spared c.flush.ensures.keeps.uses (omega arith) (omega arith)
              (λ none. c.flush.ensures.keeps.still
              (inl (nothing_in_buffer taken before c.cursor.result c.next_place.result c.take_unit.ensures.continues.stripe.pieces
              c.cursor.ensures c.next_place.ensures none)));
          named = named_with kept _ does.added does.adds (flush_leaves does.added does.kinds) c.take_unit.ensures.continues.stripe.named;
          readers = c.take_unit.ensures.continues.stripe.readers;
          ahead = made_still taken _ before after c.flush.new.ahead c.take_unit.ensures.continues.stripe.pieces
              c.flush.ensures.keeps.pieces.held c.flush.ensures.keeps.uses.same c.flush.ensures.keeps.ahead;
          none = none_with kept _ does.added does.adds (flush_displaces does.added does.kinds) c.take_unit.ensures.continues.stripe.none;
          vectors = c.flush.ensures.keeps.pieces.contents contents_of_vectors tt c.take_unit.ensures.continues.stripe.vectors;
          documents = documents_stay c.take_unit.ensures.continues.stripe.documents
              (λ contents. c.flush.ensures.keeps.pieces.contents contents tt);
          numbered = numbered_others kept _ does.added does.adds others c.take_unit.ensures.continues.stripe.numbered;
        };
        between = between-trans _ _ _ _ _ _ c.take_unit.ensures.continues.between
            (between-adds _ _ kept _ does.added does.adds c.flush.ensures.keeps.uses.goes does.faults does.unharmed
            (subst (λ h. LeaveCopies h before.device.past after.device.past) c.take_unit.ensures.continues.stripe.pieces.geometry c.flush.ensures.keeps.uses.leaves)
            (flush_left does.added does.kinds));
        contents = λ contents told stands.
            c.flush.ensures.keeps.pieces.contents contents tt (c.take_unit.ensures.continues.contents contents tt stands);
        later = omega (arith, c.take_unit.ensures.continues.later, c.flush.ensures.keeps.uses.later);
      };
      does =
          let asked = FlushesAsAsked c.args.now old new first device in
          subst (λ r. AnswersOrWants (Err r) asked (new ≡ old)) (sym c.from.ensures)
          (answers_stop c.in-Err.stop asked _
          (behind_unit (λ k n. FlushesAsAsked c.args.now k new n device (Err c.in-Err.stop)) kept old before.device.past first
          records c.take_unit.ensures.still.past does));
      row = λ put. ap (room_for put) c.take_unit.ensures.actors;
      tells = tt;
      room = tt;
      stops =
          subst (λ r. AnswersOrWants {X = Flushed} (Err r) (λ x. IfErr x (StopsWith s faults)) (Unit {0})) (sym c.from.ensures)
          (answers_stop c.in-Err.stop (λ x. IfErr x (StopsWith s faults)) (Unit {0})
          (subst (λ t. StopsWith t faults c.in-Err.stop) (ap state_of records) c.in-Err.ensures.answers.stops));
      still = λ empty. still (inl (ap (λ (k : Kept). (state_of k).filled) records ∙ empty));
      ended = λ full. still (inr (ap (λ (k : Kept). is_flush_exhausted (state_of k)) records ∙ full));
      untouched =
          subst (λ r. Wanting {X = Flushed} (Err r) (IsStill (seen_in c.args.self.now).device device)) (sym c.from.ensures)
          (stop_wants_none Flushed c.in-Err.stop (IsStill (seen_in c.args.self.now).device device));
      memory = λ some. subst (λ r. HasMemory {X = Flushed} (Err r)) (sym c.from.ensures) (stop_has_memory Flushed c.in-Err.stop);
      unit = c.take_unit.ensures.unit;
    }

pub flush-requires-clause-ready : goal.flush-requires-clause-ready
flush-requires-clause-ready g c =
    let t = c.take_unit.new.self in
    let stripe = c.take_unit.ensures.continues.stripe in
    ready_to_flush t.pieces (units_in t) (flushes_in t) _ _ stripe.pieces c.in_ok-take_unit.ensures.spared (omega arith) (omega arith)
    t.actors t.ahead stripe.actors stripe.ahead
