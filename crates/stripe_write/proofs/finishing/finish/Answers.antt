use Rattle.std.proofs.Common.{sym, ◌∙◌, subst}
use Rattle.logged_disk.proofs.GoingOn.{told_before}
use Rattle.cache_model.specs.Contents.{TellsVectors}
use Rattle.piece_answers.specs.Place.{RoomsAsAsked}
use Rattle.stripe_core.specs.Stripe.{kept_in, seen_in, state_in}
use Rattle.stripe_write.specs.Closing.{AreSpelled}
use Rattle.stripe_write.specs.Finishing.{bytes_now}
use Rattle.stripe_write.proofs.Owning.{owns_room, then_owns}
use Rattle.stripe_write.proofs.Completing.{is_closing}
use Rattle.stripe_write.proofs.Faulted.{recorded_behind, room_refused}
use Rattle.stripe_write.proofs.Flushed.{stop_in}
use Rattle.stripe_write.proofs.Gathering.{left_writer, puts_left, room_leaves}
use Rattle.stripe_write.proofs.Roomed.{behind_room, no_room_ends, no_room_where, room_is_made, room_keeps}
use Rattle.stripe_write.proofs.WeighingReads.{still_writing}
use Rattle.stripe_core.proofs.Continuing.{continues_rests, rests_with}
use Rattle.stripe_write.proofs.Keeping.{read_stays}
use Rattle.stripe_write.proofs.ToldPieces.{rests_behind}
use Rattle.stripe_write.proofs.finishing.finish.Goals as goal

pub end-requires-clause-writer : goal.end-requires-clause-writer
end-requires-clause-writer g c =
    let s = state_in c.args.stripe.now in
    let t = state_in c.make_room.new.stripe in
    let w = c.args.writer.now in
    let at = c.requires.writer.writing in
    let leaves = room_leaves c.args.now (kept_in c.args.stripe.now) (kept_in c.make_room.new.stripe) _ _ _ _ c.in-Ok.ensures.does in
    record {
      writing = record {
        resting = record { stripe = c.make_room.ensures.continues.stripe; quiet = leaves.pending ∙ at.resting.quiet };
        writer = left_writer s t w leaves at.writer;
        is_open = still_writing s t w.put (puts_left s t leaves) at.is_open;
      };
      cut = c.requires.writer.cut;
    }

pub end-requires-clause-vectors : goal.end-requires-clause-vectors
end-requires-clause-vectors g c =
    let before = (seen_in c.args.stripe.now).device in
    let between = (seen_in c.make_room.new.stripe).device in
    let old = kept_in c.args.stripe.now in
    let mid = kept_in c.make_room.new.stripe in
    record {
      -- what was read stays read over the flush
      read = λ tells.
          read_stays (state_in c.args.stripe.now) (state_in c.make_room.new.stripe) c.args.writer.now c.args.vectors
          (room_keeps c.args.now old mid before.past between _ _ c.in-Ok.ensures.does)
          (c.requires.vectors.read (told_before before between c.make_room.ensures.continues.between.goes tells));
      spelled =
          subst (λ x. AreSpelled x c.args.writer.now c.args.vectors)
          (sym (room_leaves c.args.now old mid _ _ _ _ c.in-Ok.ensures.does).geometry) c.requires.vectors.spelled;
    }

pub end-requires-clause-room : goal.end-requires-clause-room
end-requires-clause-room g c =
    room_is_made c.args.now (kept_in c.args.stripe.now) (kept_in c.make_room.new.stripe) _ _ c.args.writer.now c.args.vectors c.in-Ok.field-0
    c.requires.writer.writing.resting.stripe.pieces.sound c.requires.vectors.spelled c.in-Ok.ensures.does c.in-Ok.ensures.room

pub returns-in-Ok : goal.returns-in-Ok
returns-in-Ok g c =
    let s = state_in c.args.stripe.now in
    let w = c.args.writer.now in
    let at = c.requires.writer.writing in
    let old = kept_in c.args.stripe.now in
    let mid = kept_in c.make_room.new.stripe in
    let new = kept_in c.end.new.stripe in
    record {
      rests =
          rests_behind TellsVectors TellsVectors _ _ _ (λ contents tells told. told)
          (continues_rests _ _ c.make_room.ensures.continues
          ((room_leaves c.args.now old mid _ _ _ _ c.in-Ok.ensures.does).pending ∙ at.resting.quiet))
          c.end.ensures.rests;
      finishes = c.end.ensures.finishes;
      does =
          behind_room g.R.Directory.purges c.args.now old mid new
          (seen_in c.args.stripe.now).device (seen_in c.make_room.new.stripe).device (seen_in c.end.new.stripe).device w c.args.vectors
          (is_closing s w at.resting.quiet at.is_open at.writer c.requires.writer.cut) c.requires.vectors.spelled c.in-Ok.field-0
          c.end.result c.make_room.ensures.continues.between.goes c.end.ensures.rests.between.goes
          c.in-Ok.ensures.does c.end.ensures.does;
      counts = c.end.ensures.counts;
      writer = c.end.ensures.writer;
      own =
          then_owns w.put old mid new (owns_room w.put c.args.now old mid _ _ _ _ c.in-Ok.ensures.does) c.end.ensures.own;
      recorded =
          recorded_behind old mid new c.end.result (owns_room w.put c.args.now old mid _ _ _ _ c.in-Ok.ensures.does)
          c.end.ensures.recorded;
    }

pub returns-in-Err : goal.returns-in-Err
returns-in-Err g c =
    let s = state_in c.args.stripe.now in
    let t = state_in c.make_room.new.stripe in
    let w = c.args.writer.now in
    let at = c.requires.writer.writing in
    let old = kept_in c.args.stripe.now in
    let new = kept_in c.make_room.new.stripe in
    let after = (seen_in c.make_room.new.stripe).device in
    let stopped = stop_in (RoomsAsAsked c.args.now old new (seen_in c.args.stripe.now).device.past
    after (bytes_now s w c.args.vectors)) c.in-Err.why c.in-Err.ensures.does in
    let leaves = room_leaves c.args.now old new _ _ _ _ stopped.1 in
    record {
      rests = rests_with _ _ _ (continues_rests _ _ c.make_room.ensures.continues (leaves.pending ∙ at.resting.quiet));
      finishes = no_room_where s t w after.faults c.in-Err.why c.in-Err.ensures.stops;
      does =
          no_room_ends g.R.Directory.purges c.args.now old new _ _ w c.args.vectors
          (is_closing s w at.resting.quiet at.is_open at.writer c.requires.writer.cut)
          c.requires.vectors.spelled c.in-Err.why c.in-Err.ensures.does c.in-Err.ensures.full c.in-Err.ensures.stops;
      counts = c.in-Err.ensures.counts;
      writer = left_writer s t w leaves at.writer;
      own = owns_room w.put c.args.now old new _ _ _ _ stopped.1;
      recorded = room_refused c.args.now old new _ after (bytes_now s w c.args.vectors) c.in-Err.why c.in-Err.ensures.does;
    }
