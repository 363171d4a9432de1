use Rattle.std.proofs.Common.{◌≡◌, sym, ◌∙◌, ap, arith, length}
use Rattle.tape_base.specs.declared.geometries.Geometry.{Geometry}
use Rattle.dir_table.specs.Displacement.{purge_of}
use Rattle.stripe_pieces.specs.Pieces.{kept_now, seen_now, state_now}
use Rattle.piece_answers.proofs.Results.{if_ok_map}
use Rattle.piece_answers.proofs.Groups.{cuts_behind, cuts_stop, mid_new, no_vector}
use Rattle.stripe_pieces.proofs.StandingPlaced.{told_of_fragment}
use Rattle.piece_answers.proofs.Uses.{uses_behind, uses_more}
use Rattle.stripe_pieces.proofs.pieces.Pieces.place_fragment.Goals as goal

pub make_room-requires-clause-ready : goal.make_room-requires-clause-ready
make_room-requires-clause-ready g c = record {
  pieces = c.requires.ready.pieces;
  actors = c.requires.ready.actors;
  ahead = c.requires.ready.ahead;
  records = omega (arith, c.requires.ready.records);
  entries = omega (arith, c.requires.ready.entries);
  calls = c.requires.ready.calls;
  blocks = c.requires.ready.blocks;
}

pub place-requires-clause-ready : goal.place-requires-clause-ready
place-requires-clause-ready g c =
    let s = state_now c.args.self.now in
    let held = c.requires.ready.pieces in
    let keeps = c.make_room.ensures.keeps in
    let first : (seen_now c.args.self.now).geometry ≡ s.geometry = held.geometry in
    let same : (state_now c.make_room.new.self).geometry ≡ s.geometry = sym keeps.pieces.held.geometry ∙ (keeps.uses.same ∙ held.geometry) in
    let purge = ap purge_of same in
    let agg = ap (λ (x : Geometry). x.agg) first in
    record {
      pieces = keeps.pieces.held;
      records = omega (arith, purge, agg, keeps.uses.of_records, c.requires.ready.records);
      entries = omega (arith, agg, keeps.uses.of_entries, c.requires.ready.entries);
    }

pub place-requires-clause-fits : goal.place-requires-clause-fits
place-requires-clause-fits g c = record {
  new = mid_new c.args.now (kept_now c.args.self.now) (kept_now c.make_room.new.self) (seen_now c.args.self.now).device.past
      (seen_now c.make_room.new.self).device c.args.id c.args.pin c.args.start c.args.payload.now c.in-Ok.field-0 c.in-Ok.ensures.does c.requires.new;
  room = c.in-Ok.ensures.answers.room;
}

pub returns-in-Ok-clause-keeps : goal.returns-in-Ok-clause-keeps
returns-in-Ok-clause-keeps g c =
    let id = c.args.id in
    let old = state_now c.args.self.now in
    let mid = state_now c.make_room.new.self in
    let device = (seen_now c.place.new.self).device in
    let kind = no_vector (length c.requires.fragment.w.cuts) id.index c.requires.fragment.next.next in
    let room = c.make_room.ensures.keeps in
    let place = c.place.ensures.keeps in
    let purge = ap purge_of room.uses.same in
    record {
      pieces = record {
        held = place.pieces.held;
        contents = λ contents said stands.
            place.pieces.contents contents
            (if_ok_map c.place.result _ _
            (λ placed told. told_of_fragment contents device old mid id c.args.start c.args.payload.now kind told) said)
            (room.pieces.contents contents tt stands);
      };
      ahead = room.ahead;
      still = λ some. place.still ∙ room.still some;
      uses = uses_behind _ _ _ _ _ _ _ _ _ _ _ (seen_now c.args.self.now) (seen_now c.make_room.new.self) (seen_now c.place.new.self) room.uses place.uses place.still
          (omega (arith, purge)) (omega arith);
    }

pub returns-in-Ok-clause-does : goal.returns-in-Ok-clause-does
returns-in-Ok-clause-does g c =
    cuts_behind c.args.now (kept_now c.args.self.now) (kept_now c.make_room.new.self) (seen_now c.args.self.now).device.past
    (seen_now c.make_room.new.self).device c.args.id c.args.pin c.args.start c.args.payload.now c.in-Ok.field-0 c.in-Ok.ensures.does
    g.R.Directory.purges (kept_now c.place.new.self) (seen_now c.place.new.self).device c.place.result c.place.ensures.keeps.still c.place.ensures.places
    c.requires.fragment c.requires.new.small c.in-Ok.ensures.answers.room

pub returns-in-Err-clause-keeps : goal.returns-in-Err-clause-keeps
returns-in-Err-clause-keeps g c =
    let room = c.make_room.ensures.keeps in
    record {
      pieces = record { held = room.pieces.held; contents = λ contents said stands. room.pieces.contents contents tt stands };
      ahead = room.ahead;
      still = room.still;
      uses = uses_more _ _ _ _ _ _ _ _ (seen_now c.args.self.now) (seen_now c.make_room.new.self) room.uses (omega arith) (omega arith);
    }

pub returns-in-Err-clause-does : goal.returns-in-Err-clause-does
returns-in-Err-clause-does g c =
    cuts_stop g.R.Directory.purges c.args.now (kept_now c.args.self.now) (kept_now c.make_room.new.self)
    (seen_now c.args.self.now).device.past
    (seen_now c.make_room.new.self).device c.args.id c.args.pin c.args.start c.args.payload.now c.in-Err.why c.requires.fragment c.in-Err.ensures.answers.full
    c.in-Err.ensures.answers.stops c.in-Err.ensures.does
