use Rattle.std.proofs.Common.{◌≡◌, ◌+◌, ◌∙◌, arith, refl, sym, true, false}
use Rattle.std.proofs.lemmas.Bool.{le-leb, lt-leb}
use Rattle.tape_base.specs.Blocks.{blocks_of}
use Rattle.cache_model.specs.Room.{has_room}
use Rattle.stripe_core.specs.Stripe.{kept_in, seen_in, state_in}
use Rattle.piece_answers.proofs.Making.{flush_makes, room_behind, room_stands}
use Rattle.stripe_core.proofs.Making.{memory_alike, refusal_makes_none, stops_alike, wanting_alike}
use Rattle.stripe_answers.proofs.Naming.{geometry_with}
use Rattle.stripe_core.proofs.Continuing.{continues_same}
use Rattle.stripe_core.proofs.Stills.{still_put}
use Rattle.stripe_core.proofs.stripe.Stripe.make_room.Goals as goal

pub returns-then-blocks_of-room : goal.returns-then-blocks_of-room
returns-then-blocks_of-room g c =
    let s = state_in c.args.self.now in
    let room : has_room s c.args.bytes ≡ true =
    le-leb (s.filled + blocks_of c.args.bytes) s.geometry.agg
    (omega (arith, c.room.ensures, c.blocks_of.ensures, c.if-blocks_of-room.true)) in
    record {
      continues = continues_same c.args.self.now c.requires.resting.stripe;
      does = room_stands c.args.now (kept_in c.args.self.now) _ c.args.bytes tt room;
      room = room;
      full = tt;
      stops = tt;
      row = λ put. refl;
      still = λ some. still_put (seen_in c.args.self.now).device;
      untouched = tt;
      memory = λ some. tt;
      unit = omega arith;
    }

pub returns-in-Ok : goal.returns-in-Ok
returns-in-Ok g c =
    let s = state_in c.args.self.now in
    let none : has_room s c.args.bytes ≡ false =
    lt-leb (s.filled + blocks_of c.args.bytes) s.geometry.agg
    (omega (arith, c.room.ensures, c.blocks_of.ensures, c.if-blocks_of-room.false)) in
    let does = c.in-Ok.ensures.does in
    record {
      continues = c.flush.ensures.continues;
      does =
          flush_makes c.args.now (kept_in c.args.self.now) (kept_in c.flush.new.self) (seen_in c.args.self.now).device.past
          (seen_in c.flush.new.self).device c.args.bytes none c.in-Ok.field-0 tt c.requires.small does;
      room =
          room_behind (state_in c.args.self.now) (state_in c.flush.new.self) c.args.bytes
          (geometry_with (kept_in c.args.self.now) (kept_in c.flush.new.self) does.added does.adds does.kinds) c.in-Ok.ensures.room
          c.requires.small;
      full = tt;
      stops = tt;
      row = c.flush.ensures.row;
      still = λ some. let both : true ≡ false = sym some ∙ none in cc;
      untouched = tt;
      memory = λ some. tt;
      unit = c.flush.ensures.unit;
    }

pub returns-in-Err : goal.returns-in-Err
returns-in-Err g c =
    let s = state_in c.args.self.now in
    let none : has_room s c.args.bytes ≡ false =
    lt-leb (s.filled + blocks_of c.args.bytes) s.geometry.agg
    (omega (arith, c.room.ensures, c.blocks_of.ensures, c.if-blocks_of-room.false)) in
    record {
      continues = c.flush.ensures.continues;
      does =
          refusal_makes_none c.args.now (kept_in c.args.self.now) (kept_in c.flush.new.self) (seen_in c.args.self.now).device.past
          (seen_in c.flush.new.self).device c.args.bytes none c.in-Err.why _ c.in-Err.ensures.does;
      room = tt;
      full = none;
      stops = stops_alike s _ c.in-Err.why c.in-Err.ensures.stops;
      row = c.flush.ensures.row;
      still = λ some. let both : true ≡ false = sym some ∙ none in cc;
      untouched = wanting_alike c.in-Err.why _ c.in-Err.ensures.untouched;
      memory = λ some. memory_alike c.in-Err.why (c.in-Err.ensures.memory some);
      unit = c.flush.ensures.unit;
    }
