use Rattle.std.proofs.Common.{◌≡◌, sym, ◌∙◌, true, false}
use Rattle.stripe_pieces.specs.Pieces.{kept_now, seen_now, state_now}
use Rattle.stripe_pieces.proofs.Adding.{flushes_nothing}
use Rattle.piece_answers.proofs.Making.{flush_makes, room_behind, room_stands, stop_makes_none}
use Rattle.held_pieces.proofs.Rooms.{no_room, some_room}
use Rattle.stripe_pieces.proofs.pieces.Pieces.make_room.Goals as goal

pub returns-then-blocks_of-room-clause-keeps : goal.returns-then-blocks_of-room-clause-keeps
returns-then-blocks_of-room-clause-keeps g c = flushes_nothing c.args.self.now c.requires.ready.pieces _ _ _ _ c.args.ahead.now c.requires.ready.ahead

pub returns-then-blocks_of-room-clause-does : goal.returns-then-blocks_of-room-clause-does
returns-then-blocks_of-room-clause-does g c =
    let before = seen_now c.args.self.now in
    room_stands c.args.now (kept_now c.args.self.now) before.device c.args.bytes tt
    (some_room (state_now c.args.self.now) before c.args.bytes c.blocks_of.result c.room.result c.requires.ready.pieces c.blocks_of.ensures c.room.ensures c.if-blocks_of-room.true)

pub returns-then-blocks_of-room-clause-answers : goal.returns-then-blocks_of-room-clause-answers
returns-then-blocks_of-room-clause-answers g c = record {
  room = some_room (state_now c.args.self.now) (seen_now c.args.self.now) c.args.bytes c.blocks_of.result c.room.result c.requires.ready.pieces c.blocks_of.ensures c.room.ensures
      c.if-blocks_of-room.true;
  full = tt;
  stops = tt;
}

pub returns-in-Ok-clause-does : goal.returns-in-Ok-clause-does
returns-in-Ok-clause-does g c =
    let before = seen_now c.args.self.now in
    flush_makes c.args.now (kept_now c.args.self.now) (kept_now c.flush.new.self) before.device.past (seen_now c.flush.new.self).device c.args.bytes
    (no_room (state_now c.args.self.now) before c.args.bytes c.blocks_of.result c.room.result c.requires.ready.pieces c.blocks_of.ensures c.room.ensures c.if-blocks_of-room.false)
    c.in-Ok.field-0 tt c.requires.small c.in-Ok.ensures.does

pub returns-in-Err-clause-does : goal.returns-in-Err-clause-does
returns-in-Err-clause-does g c =
    let none = no_room (state_now c.args.self.now) (seen_now c.args.self.now) c.args.bytes c.blocks_of.result c.room.result c.requires.ready.pieces
    c.blocks_of.ensures c.room.ensures c.if-blocks_of-room.false in
    stop_makes_none c.args.now (kept_now c.args.self.now) (kept_now c.flush.new.self) (seen_now c.args.self.now).device.past
    (seen_now c.flush.new.self).device c.args.bytes none c.in-Err.why c.in-Err.ensures.does

pub returns-in-Ok-clause-keeps : goal.returns-in-Ok-clause-keeps
returns-in-Ok-clause-keeps g c =
    let keeps = c.flush.ensures.keeps in
    let none = no_room (state_now c.args.self.now) (seen_now c.args.self.now) c.args.bytes c.blocks_of.result c.room.result c.requires.ready.pieces
    c.blocks_of.ensures c.room.ensures c.if-blocks_of-room.false in
    record { pieces = keeps.pieces; ahead = keeps.ahead; still = λ some. let both : true ≡ false = sym some ∙ none in cc; uses = keeps.uses }

pub returns-in-Ok-clause-answers : goal.returns-in-Ok-clause-answers
returns-in-Ok-clause-answers g c = record {
  room = room_behind (state_now c.args.self.now) (state_now c.flush.new.self) c.args.bytes
      (sym c.flush.ensures.keeps.pieces.held.geometry ∙ (c.flush.ensures.keeps.uses.same ∙ c.requires.ready.pieces.geometry)) c.in-Ok.ensures.answers.room c.requires.small;
  full = tt;
  stops = tt;
}

pub returns-in-Err-clause-keeps : goal.returns-in-Err-clause-keeps
returns-in-Err-clause-keeps g c =
    let keeps = c.flush.ensures.keeps in
    let none = no_room (state_now c.args.self.now) (seen_now c.args.self.now) c.args.bytes c.blocks_of.result c.room.result c.requires.ready.pieces
    c.blocks_of.ensures c.room.ensures c.if-blocks_of-room.false in
    record { pieces = keeps.pieces; ahead = keeps.ahead; still = λ some. let both : true ≡ false = sym some ∙ none in cc; uses = keeps.uses }

pub returns-in-Err-clause-answers : goal.returns-in-Err-clause-answers
returns-in-Err-clause-answers g c = record {
  room = tt;
  full = no_room (state_now c.args.self.now) (seen_now c.args.self.now) c.args.bytes c.blocks_of.result c.room.result c.requires.ready.pieces
      c.blocks_of.ensures c.room.ensures c.if-blocks_of-room.false;
  stops = c.in-Err.ensures.answers.stops;
}
