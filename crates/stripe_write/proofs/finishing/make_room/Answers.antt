use Rattle.std.proofs.Common.{◌≡◌, true, false, ◌∙◌, ap, subst, arith}
use Rattle.std.specs.Prelude.{IfErr, OnErr, OnOk, length}
use Rattle.cache_model.specs.Room.{has_room}
use Rattle.piece_answers.specs.Flush.{StopsWith}
use Rattle.piece_answers.specs.Place.{RoomsAsAsked}
use Rattle.stripe_core.specs.Stripe.{AnswersOrWants, kept_in, seen_in, state_in}
use Rattle.stripe_vectors.specs.declared.spelling.Spelled.{Spelled}
use Rattle.stripe_write.specs.Finishing.{bytes_now, picked}
use Rattle.stripe_write.proofs.Counted.{stops_counted}
use Rattle.stripe_write.proofs.Flushed.{never_wanting}
use Rattle.stripe_write.proofs.finishing.make_room.Goals as goal

pub returns : goal.returns
returns g c =
    let s = state_in c.args.stripe.now in
    let t = state_in c.make_room.new.self in
    let old = kept_in c.args.stripe.now in
    let new = kept_in c.make_room.new.self in
    let before = (seen_in c.args.stripe.now).device in
    let after = (seen_in c.make_room.new.self).device in
    let result = c.make_room.result in
    let size : c.len-bytes.result ≡ bytes_now s c.args.writer.now c.args.vectors.now =
    c.len-bytes.ensures
    ∙ (c.pick.result.now.bytes.ok.0
    ∙ ap (λ (x : Spelled). length x.bytes.items) (c.pick.ensures ∙ ap (picked c.args.vectors.now) c.is_live.ensures)) in
    let memory = c.make_room.ensures.memory (omega (arith, c.requires.units)) in
    let stops = never_wanting result (λ r. IfErr r (StopsWith s after.faults)) (Unit {0}) ⊥ memory c.make_room.ensures.stops in
    record {
      continues = c.make_room.ensures.continues;
      full = subst (λ n. OnErr result (has_room s n ≡ false)) size c.make_room.ensures.full;
      does =
          subst (λ n. AnswersOrWants result (RoomsAsAsked c.args.now old new before.past after n) ⊥) size
          (never_wanting result (RoomsAsAsked c.args.now old new before.past after c.len-bytes.result) (new ≡ old) ⊥ memory
          c.make_room.ensures.does);
      stops = stops;
      counts = stops_counted s after.faults result stops;
      room = subst (λ n. OnOk result (has_room t n ≡ true)) size c.make_room.ensures.room;
      unit = c.make_room.ensures.unit;
    }
