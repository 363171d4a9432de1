use Rattle.std.proofs.Common.{◌++◌, [], ◌∷◌, ap, ◌∙◌, arith, false}
use Rattle.logged_disk.specs.Device.{DeviceState as Device}
use Rattle.cache_model.specs.declared.record.Rec.TheVariants as rec
use Rattle.cache_model.specs.Kept.{with_records}
use Rattle.cyclone.specs.Cyclone.{Seen}
use Rattle.stripe_pieces.specs.Copying.{told_of_pieces}
use Rattle.stripe_pieces.specs.Pieces.{kept_now, seen_now, state_now}
use Rattle.piece_answers.proofs.RecordsAdded.{with_records-append}
use Rattle.held_pieces.proofs.HeldBehindFaults.{counted_is_held}
use Rattle.stripe_pieces.proofs.Standing.{standing_fault}
use Rattle.stripe_pieces.proofs.Telling.{held_behind, stands_behind}
use Rattle.piece_answers.proofs.Uses.{rows_use}
use Rattle.stripe_pieces.proofs.pieces.Pieces.stop.Goals as goal

pub tell-requires-clause-ready : goal.tell-requires-clause-ready
tell-requires-clause-ready g c = record { pieces = c.requires.ready.pieces; records = omega (arith, c.requires.ready.records); entries = omega arith }

pub returns-clause-keeps : goal.returns-clause-keeps
returns-clause-keeps g c =
    let s = state_now c.tell.new.self in
    let after = seen_now c.tell.new.self in
    let count = c.faults-count.result in
    let is = c.faults-count.ensures ∙ ap (λ (d : Device). d.faults) c.disk.ensures in
    let same = ap (λ (y : Seen). y.device.faults) c.tell.ensures.rest.same in
    let old = kept_now c.args.self.now in
    let kept = kept_now c.tell.new.self in
    let new = g.C.Chronicle.kept c.fault.new.chronicle in
    let told = told_of_pieces false c.args.ahead.now.due.items c.args.ahead.now.fates.items in
    let recs = rec.Fault count ∷ [] in
    record {
      pieces = record {
        held = held_behind kept new recs after c.fault.ensures.kept
            (counted_is_held s after count c.tell.ensures.pieces.held (omega (arith, is, same)));
        contents = λ contents said stands.
            stands_behind contents kept new recs after c.fault.ensures.kept
            (standing_fault contents s after count (c.tell.ensures.pieces.contents contents said stands));
      };
      adds = c.fault.ensures.kept
          ∙ (ap (λ k. with_records k recs) c.tell.ensures.adds
          ∙ (with_records-append old told recs ∙ ap (λ n. with_records old (told ++ rec.Fault n ∷ [])) is));
      still = ap (λ (y : Seen). y.device) c.tell.ensures.rest.same;
      uses = rows_use _ _ _ (seen_now c.args.self.now) after c.tell.ensures.rest (omega (arith, c.tell.ensures.room, c.fault.ensures.room));
    }
