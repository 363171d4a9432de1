use Rattle.std.proofs.Common.{ℕ, List, refl, ◌≡◌, sym, ◌∙◌, ap, subst, arith, true, false, Ok, Err}
use Rattle.std.specs.Prelude.{Bool, Some, find, ◌==◌}
use Rattle.device_log.specs.Calls.{Call}
use Rattle.cache_model.specs.Kept.{Kept, state_of}
use Rattle.cache_model.specs.State.{PutRow, vector_piece}
use Rattle.stripe_answers.specs.Acts.{IsCommitting}
use Rattle.piece_answers.specs.Place.{PlacesVector}
use Rattle.piece_answers.specs.declared.answer.Placed.{Placed}
use Rattle.stripe_write.specs.declared.writer.Writer.{Writer}
use Rattle.stripe_write.proofs.Counted.{vector_counted}
use Rattle.stripe_write.proofs.Faulted.{vector_recorded}
use Rattle.stripe_write.proofs.Pushed.{pushed_by}
use Rattle.stripe_write.proofs.Spending.{state_behind}
use Rattle.logged_disk.specs.Device.{DeviceState as Device}
use Rattle.logged_disk.proofs.GoingOn.{told_before}
use Rattle.cache_model.specs.Contents.{TellsVectors, contents_of_vectors}
use Rattle.piece_answers.specs.Standing.{IsToldPlaced}
use Rattle.stripe_core.specs.Stripe.{kept_in, seen_in, state_in}
use Rattle.stripe_vectors.specs.declared.spelling.Spelled.{Spelled}
use Rattle.stripe_write.specs.Finishing.{picked}
use Rattle.stripe_write.proofs.Owning.{owns, owns_none, owns_vector, then_owns}
use Rattle.stripe_write.proofs.Completing.{IsClosing, completes, is_closing, not_placed, picked_lists, refused_finishes, refused_writer, vector_for, vector_of_put, vector_state, vector_where}
use Rattle.stripe_core.proofs.Continuing.{continues_still, rests_with}
use Rattle.stripe_write.proofs.ToldPieces.{own_vectors, rests_before, told_vector}
use Rattle.piece_answers.proofs.Displacing.{displaced_puts}
use Rattle.stripe_write.proofs.finishing.complete.Goals as goal

-- behind its vector a put may be committed
is_committing : {packed : Bool} (old new : Kept) (before after : List Call) (w : Writer) (pin : ℕ) (payload : List ℕ) (placed : Placed) → IsClosing (state_of old) w
    → PlacesVector packed old new before after (vector_piece w.key w.put) pin 0 payload (Ok placed) → IsCommitting (state_of new) w.put w.key
is_committing old new before after w pin payload placed c h =
    let s = state_of old in
    let behind = displaced_puts s h.places.are.displaced (pushed_by s (vector_piece w.key w.put) pin 0 payload h.places.added h.places.are) in
    subst (λ t. IsCommitting t w.put w.key) (sym (state_behind old new h.places.added h.places.adds ∙ vector_state s w.key w.put pin payload h.places.added h.places.are))
    (record { w = c.row; found = ap (find (λ (p : PutRow). p.put == w.put)) behind.puts ∙ c.writing.found; is_open = c.writing.is_open; key_is = c.key_is; pending = ap (λ k. Some (vector_piece k w.put)) (sym c.key_is) })

pub place_piece-requires-clause-placing : goal.place_piece-requires-clause-placing
place_piece-requires-clause-placing g c =
    let s = state_in c.args.stripe.now in
    let w = c.args.writer.now in
    let at = c.requires.writer.writing in
    vector_for s w c.args.vectors c.deref-2.result.now (is_closing s w at.resting.quiet at.is_open at.writer c.requires.writer.cut)
    c.requires.vectors.spelled c.requires.room
    (c.deref-2.ensures.value ∙ ap (λ (x : Spelled). x.bytes.items) (c.pick-spelled.ensures ∙ ap (picked c.args.vectors) c.is_live-live.ensures))

-- the vector spells what the records list, where the device tells its content
pub place_piece-requires-clause-spelled : goal.place_piece-requires-clause-spelled
place_piece-requires-clause-spelled g c = λ tells.
    let s = state_in c.args.stripe.now in
    let w = c.args.writer.now in
    let at = c.requires.writer.writing in
    told_vector s w c.args.vectors c.deref-2.result.now (is_closing s w at.resting.quiet at.is_open at.writer c.requires.writer.cut)
    contents_of_vectors at.resting.stripe.none c.requires.vectors.spelled (c.requires.vectors.read tells)
    (c.deref-2.ensures.value ∙ ap (λ (x : Spelled). x.bytes.items) (c.pick-spelled.ensures ∙ ap (picked c.args.vectors) c.is_live-live.ensures)) own_vectors

pub commit-requires-clause-committing : goal.commit-requires-clause-committing
commit-requires-clause-committing g c =
    let s = state_in c.args.stripe.now in
    let w = c.args.writer.now in
    let at = c.requires.writer.writing in
    is_committing (kept_in c.args.stripe.now) (kept_in c.place_piece.new.self) _ _ w c.pick-spelled.result.now.pin c.deref-2.result.now c.in-Ok.field-0
    (is_closing s w at.resting.quiet at.is_open at.writer c.requires.writer.cut) c.in-Ok.ensures.does

pub returns-in-Ok : goal.returns-in-Ok
returns-in-Ok g c =
    let s = state_in c.args.stripe.now in
    let w = c.args.writer.now in
    let v = c.args.vectors in
    let at = c.requires.writer.writing in
    let spelled = c.requires.vectors.spelled in
    let old = kept_in c.args.stripe.now in
    let mid = kept_in c.place_piece.new.self in
    let new = kept_in c.commit.new.stripe in
    let before = (seen_in c.args.stripe.now).device in
    let placed = (seen_in c.place_piece.new.self).device in
    let pin = c.pick-spelled.result.now.pin in
    let payload = c.deref-2.result.now in
    let closing = is_closing s w at.resting.quiet at.is_open at.writer c.requires.writer.cut in
    let picks = c.pick-spelled.ensures ∙ ap (picked v) c.is_live-live.ensures in
    let bytes = c.deref-2.ensures.value ∙ ap (λ (x : Spelled). x.bytes.items) picks in
    record {
      rests =
          rests_before (IsToldPlaced placed s (vector_piece w.key w.put) 0 payload) TellsVectors _ _ _
          (λ contents tells told now. told_vector s w v payload closing contents at.resting.stripe.none spelled
          (c.requires.vectors.read (told_before before placed c.place_piece.ensures.continues.between.goes now)) bytes told)
          c.in-Ok.ensures.continues c.commit.ensures.rests;
      finishes = c.commit.ensures.receipt;
      does =
          completes g.R.Directory.purges c.args.now old new _ _ w v pin payload closing
          (vector_of_put s w v pin payload closing spelled c.requires.room bytes (ap (λ (x : Spelled). x.pin) picks) c.requires.whole)
          mid _ c.in-Ok.field-0 c.commit.result c.into_list.result
          (picked_lists s w v closing c.is_live-live.result c.into_list.result c.is_live-live.ensures c.into_list.ensures spelled)
          (ap (λ (d : Device). d.past) c.commit.ensures.still) c.in-Ok.ensures.does c.commit.ensures.adds c.commit.ensures.does;
      counts = tt;
      writer = c.commit.ensures.writer;
      own =
          then_owns w.put old mid new (owns_vector w.put old mid w.key pin payload c.in-Ok.field-0 c.in-Ok.ensures.does.places)
          (owns w.put mid new _ c.commit.ensures.adds (refl, tt));
      recorded = tt;
    }

pub returns-in-Err : goal.returns-in-Err
returns-in-Err g c =
    let s = state_in c.args.stripe.now in
    let w = c.args.writer.now in
    let v = c.args.vectors in
    let at = c.requires.writer.writing in
    let spelled = c.requires.vectors.spelled in
    let old = kept_in c.args.stripe.now in
    let new = kept_in c.place_piece.new.self in
    let after = (seen_in c.place_piece.new.self).device in
    let why = c.in-Err.why in
    let pin = c.pick-spelled.result.now.pin in
    let payload = c.deref-2.result.now in
    let closing = is_closing s w at.resting.quiet at.is_open at.writer c.requires.writer.cut in
    let picks = c.pick-spelled.ensures ∙ ap (picked v) c.is_live-live.ensures in
    let bytes = c.deref-2.ensures.value ∙ ap (λ (x : Spelled). x.bytes.items) picks in
    let memory = c.in-Err.ensures.memory (omega (arith, c.requires.units)) (λ e. let clash : true ≡ false = e in cc) in
    let none = not_placed g.R.Directory.purges old new _ _ _ pin payload why c.in-Err.ensures.does in
    record {
      rests = rests_with _ _ _ (continues_still _ _ c.in-Err.ensures.continues none at.resting);
      finishes =
          vector_where g.R.Directory.purges old new _ _ (state_in c.place_piece.new.self) w (vector_piece w.key w.put) pin payload why
          c.in-Err.ensures.does memory;
      does =
          refused_finishes g.R.Directory.purges c.args.now old new _ _ w v pin payload closing
          (vector_of_put s w v pin payload closing spelled c.requires.room bytes (ap (λ (x : Spelled). x.pin) picks) c.requires.whole)
          why c.in-Err.ensures.does memory;
      counts =
          vector_counted g.R.Directory.purges old new _ _ after.faults (vector_piece w.key w.put) pin 0 payload _ (Err why)
          c.in-Err.ensures.does;
      writer = refused_writer g.R.Directory.purges old new _ _ w pin payload why c.in-Err.ensures.does at.writer;
      own = owns_none w.put old new none;
      recorded =
          vector_recorded g.R.Directory.purges old new _ _ (vector_piece w.key w.put) pin 0 payload _ why c.in-Err.ensures.does;
    }
