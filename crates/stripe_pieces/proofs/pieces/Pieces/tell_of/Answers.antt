use Rattle.std.proofs.Common.{[], ◌∷◌, ◌∙◌, ap, arith, true}
use Rattle.cache_model.specs.declared.record.Rec.TheVariants as rec
use Rattle.cache_model.specs.Kept.{with_records}
use Rattle.stripe_pieces.specs.Copying.{left_records}
use Rattle.stripe_pieces.specs.Pieces.{kept_now, seen_now, state_now}
use Rattle.stripe_pieces.proofs.Adding.{tells_nothing}
use Rattle.piece_answers.proofs.RecordsAdded.{with_records-append}
use Rattle.held_pieces.proofs.HeldBehindFaults.{counted_is_held}
use Rattle.stripe_pieces.proofs.Standing.{standing_fault}
use Rattle.stripe_pieces.proofs.Telling.{held_behind, stands_behind}
use Rattle.stripe_pieces.proofs.pieces.Pieces.tell_of.Goals as goal

pub leave-requires : goal.leave-requires
leave-requires g c = rw c.in-NoRoom.is at c.requires.ready

pub returns-in-NoRoom : goal.returns-in-NoRoom
returns-in-NoRoom g c = rw c.in-NoRoom.is c.leave.ensures.keeps

pub returns-in-Copied : goal.returns-in-Copied
returns-in-Copied g c = rw c.in-Copied.is (tells_nothing c.args.self.now c.requires.ready.pieces)

pub damage-requires : goal.damage-requires
damage-requires g c = record { ready = rw c.in-Spoiled.is at c.requires.ready; live = rw c.in-Spoiled.is at c.requires.told }

pub returns-in-Spoiled : goal.returns-in-Spoiled
returns-in-Spoiled g c =
    let keeps = c.damage.ensures.keeps in
    rw c.in-Spoiled.is (record { pieces = keeps.pieces; adds = keeps.adds; rest = c.damage.ensures.rest; room = keeps.uses.of_records })

pub leave-requires-in-Refused : goal.leave-requires-in-Refused
leave-requires-in-Refused g c =
    let seen = seen_now c.args.self.now in
    let ready = rw c.in-Refused.is at c.requires.ready in
    record {
      pieces = held_behind (kept_now c.args.self.now) (g.C.Chronicle.kept c.fault.new.chronicle) (rec.Fault c.in-Refused.count ∷ []) seen c.fault.ensures.kept
          (counted_is_held (state_now c.args.self.now) seen c.in-Refused.count c.requires.ready.pieces (rw c.in-Refused.is at c.requires.told));
      records = omega (arith, ready.records, c.fault.ensures.room);
      entries = omega arith;
    }

pub returns-in-Refused : goal.returns-in-Refused
returns-in-Refused g c =
    let k = kept_now c.args.self.now in
    let seen = seen_now c.args.self.now in
    let new = g.C.Chronicle.kept c.fault.new.chronicle in
    let told = rec.Fault c.in-Refused.count ∷ [] in
    let left = left_records c.args.done c.args.candidate true in
    let keeps = c.leave-in-Refused.ensures.keeps in
    rw c.in-Refused.is
    (record {
      pieces = record {
        held = keeps.pieces.held;
        contents = λ contents any stands.
            keeps.pieces.contents contents any
            (stands_behind contents k new told seen c.fault.ensures.kept (standing_fault contents (state_now c.args.self.now) seen c.in-Refused.count stands));
      };
      adds = keeps.adds ∙ (ap (λ x. with_records x left) c.fault.ensures.kept ∙ with_records-append k told left);
      rest = keeps.rest;
      room = omega (arith, keeps.room, c.fault.ensures.room);
    })
