use Rattle.std.proofs.Common.{◌*◌, refl, sym, ◌∙◌, ap, subst, arith, take, [], ◌∷◌}
use Rattle.logged_disk.specs.Device.{DeviceState as Device, TellsAll}
use Rattle.cache_model.specs.declared.cause.Cause.TheVariants as cause
use Rattle.cache_model.specs.declared.record.Rec.TheVariants as rec
use Rattle.cache_model.specs.Damage.{TellNoDamage}
use Rattle.cache_model.specs.Kept.{state_of, with_records}
use Rattle.cyclone.specs.Cyclone.{Seen, seen_cyclone}
use Rattle.piece_answers.specs.declared.answer.Found.TheVariants as found
use Rattle.piece_answers.specs.Find.{found_records}
use Rattle.held_pieces.specs.Held.{IsHeld}
use Rattle.piece_answers.specs.Standing.{AreStanding}
use Rattle.stripe_pieces.specs.Pieces.{kept_now, seen_now, state_now}
use Rattle.piece_answers.proofs.RecordsAdded.{state_of-with_records}
use Rattle.held_pieces.proofs.HeldBehindFaults.{fault_is_held, read_spares}
use Rattle.piece_answers.proofs.Flushes.{read_uses, records_use}
use Rattle.stripe_pieces.proofs.Findings.{fault_stands, finds_fault, finds_in, finds_no_damage, finds_read, judged_adds}
use Rattle.held_pieces.proofs.Going.{device_may_change}
use Rattle.stripe_pieces.proofs.Standing.{standing_on}
use Rattle.cyclone.proofs.Calls.{reads_go_on, reads_same}
use Rattle.held_pieces.specs.Still.{IsUnwritten}
use Rattle.stripe_pieces.proofs.pieces.Pieces.read.Goals as goal

pub judge-requires-clause-ready : goal.judge-requires-clause-ready
judge-requires-clause-ready g c = record {
  pieces = device_may_change (state_now c.args.self.now) (seen_now c.args.self.now) (seen_cyclone c.load.new.cyclone) c.requires.ready.pieces
      c.load.ensures.same c.load.ensures.turns (read_spares _ _ _ _ _ _ c.load.ensures.reads);
  records = c.requires.ready.records;
  entries = omega arith;
}

pub returns-in-Ok : goal.returns-in-Ok
returns-in-Ok g c =
    let s = state_now c.args.self.now in
    let before = seen_now c.args.self.now in
    let mid = seen_cyclone c.load.new.cyclone in
    let blocks = c.recorded-blocks.result.0 in
    let kept = c.recorded-blocks.result.1 in
    let bytes = take (512 * blocks) c.load.new.into in
    let recorded = c.recorded-blocks.ensures.recorded in
    let held = c.requires.ready.pieces in
    let keeps = c.judge.ensures.keeps in
    let spares = read_spares _ _ _ _ _ _ c.load.ensures.reads in
    record {
      pieces = record {
        held = keeps.pieces.held;
        contents = λ contents told stands.
            keeps.pieces.contents contents tt
            (standing_on contents s before mid held (ap (λ (y : Seen). y.geometry) c.load.ensures.same) (ap (λ (y : Seen). y.buffer) c.load.ensures.same) spares stands);
      };
      adds = keeps.adds
          ∙ ap (with_records (kept_now c.args.self.now)) (judged_adds s c.args.id c.args.place blocks kept bytes c.judge.result c.judge.new.into recorded c.judge.ensures.judges);
      finds = finds_in s before mid (seen_now c.judge.new.self) c.args.id c.judge.result c.judge.new.into keeps.still
          (finds_read s before mid c.args.id c.args.place blocks kept bytes c.judge.new.into c.judge.result held recorded c.in-Ok.ensures.reads c.judge.ensures.judges);
      unharmed = λ told.
          finds_no_damage s before mid c.args.id c.args.place blocks kept bytes c.judge.new.into c.judge.result held recorded c.in-Ok.ensures.reads c.judge.ensures.judges
          (subst (λ (d : Device). TellsAll d) keeps.still told);
      unwritten = subst (λ d. IsUnwritten before.device d) (sym keeps.still)
          (record { goes = reads_go_on _ _ _ _ _ _ c.load.ensures.reads; seen = reads_same _ _ _ _ _ _ c.load.ensures.reads });
      uses = read_uses 1 _ _ before mid (seen_now c.judge.new.self) _ _ _ _ c.load.ensures.same c.load.ensures.reads keeps.uses;
    }

pub returns-in-Err : goal.returns-in-Err
returns-in-Err g c =
    let s = state_now c.args.self.now in
    let before = seen_now c.args.self.now in
    let after = seen_cyclone c.load.new.cyclone in
    let k = kept_now c.args.self.now in
    let count = c.faults-count.result in
    let counts = c.faults-count.ensures ∙ ap (λ (d : Device). d.faults) c.disk.ensures in
    let told = rec.Fault count ∷ [] in
    let held = c.requires.ready.pieces in
    let recorded = c.recorded-blocks.ensures.recorded in
    let is = sym (ap state_of c.fault.ensures.kept ∙ state_of-with_records k told) in
    let adds = sym (ap (λ row. found_records row (found.Missing (cause.DeviceFault count))) recorded.live) in
    let spares = read_spares _ _ _ _ _ _ c.load.ensures.reads in
    record {
      pieces = record {
        held = subst (λ t. IsHeld t after) is (fault_is_held s before after count held c.load.ensures.same c.load.ensures.turns spares counts);
        contents = λ contents any stands.
            subst (λ t. AreStanding contents t after) is
            (fault_stands contents s after count
            (standing_on contents s before after held (ap (λ (y : Seen). y.geometry) c.load.ensures.same) (ap (λ (y : Seen). y.buffer) c.load.ensures.same) spares stands));
      };
      adds = c.fault.ensures.kept ∙ ap (with_records k) adds;
      finds = finds_fault s before after c.args.id c.args.place c.recorded-blocks.result.0 count c.recorded-blocks.result.1
          (take (512 * c.recorded-blocks.result.0) c.load.new.into) c.load.new.into c.in-Err.field-0 held recorded c.in-Err.ensures.reads c.in-Err.ensures.buffered counts;
      unharmed = λ tells. subst TellNoDamage adds (refl, tt);
      unwritten = record { goes = reads_go_on _ _ _ _ _ _ c.load.ensures.reads; seen = reads_same _ _ _ _ _ _ c.load.ensures.reads };
      uses = read_uses 1 _ _ before after after _ _ _ _ c.load.ensures.same c.load.ensures.reads (records_use 1 _ _ after c.fault.ensures.room);
    }
