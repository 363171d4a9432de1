use Rattle.std.proofs.Common.{◌≡◌, ◌+◌, ◌*◌, ◌≤◌, ◌∷◌, ◌++◌, refl, sym, ◌∙◌, ap, subst, arith, true, false, [], Err, length}
use Rattle.tape_base.specs.declared.geometries.Geometry.{Geometry}
use Rattle.tape_base.specs.Geometry.{budget_of}
use Rattle.logged_disk.specs.Device.{DeviceState as Device, TellsAll}
use Rattle.logged_disk.proofs.GoingOn.{told_before}
use Rattle.cyclone.specs.Cyclone.{Seen, seen_cyclone}
use Rattle.cyclone.proofs.Calls.{write_goes_on}
use Rattle.cache_model.specs.declared.record.Rec.TheVariants as rec
use Rattle.cache_model.specs.State.{State, after_all, cursor_next}
use Rattle.cache_model.specs.Kept.{state_of, with_records}
use Rattle.cache_model.specs.Slots.{AllFit}
use Rattle.cache_model.specs.Due.{most_passed}
use Rattle.piece_answers.specs.declared.answer.Stop.TheVariants as stop
use Rattle.stripe_pieces.specs.Copying.{AreCopyable, AreTellable, AreToldCopied, begun_behind, copies_among, done_records, told_of_pieces}
use Rattle.piece_answers.specs.Covers.{Uses}
use Rattle.piece_answers.specs.Flush.{FlushesAsAsked, StopsWith}
use Rattle.held_pieces.specs.Held.{IsHeld}
use Rattle.piece_answers.specs.Standing.{AreStanding}
use Rattle.stripe_pieces.specs.Pieces.{kept_now, seen_now, state_now}
use Rattle.stripe_pieces.proofs.Adding.{flushes_nothing}
use Rattle.piece_answers.proofs.RecordsAdded.{with_records-nil, state_of-with_records}
use Rattle.held_pieces.proofs.HeldBehindFaults.{some_filled, write_spares}
use Rattle.piece_answers.proofs.Flushes.{can, empty_does, exhausted_does, writes_some}
use Rattle.held_pieces.proofs.Going.{device_may_change}
use Rattle.held_pieces.proofs.Holding.{copies_end_fits, copies_end_is, next_is}
use Rattle.stripe_pieces.proofs.LiveBehind.{live_same}
use Rattle.stripe_pieces.proofs.Looked.{copyable, few_entries, few_records, flush_asked, flush_uses, half_is_free, left_by_write, stop_asked, taken_by_write, tellable, told_copied}
use Rattle.held_pieces.proofs.Slotted.{held_fit}
use Rattle.stripe_pieces.proofs.ToldCopies.{stands_out}
use Rattle.piece_answers.proofs.Effects.{effects_none}
use Rattle.stripe_pieces.proofs.pieces.Pieces.flush.Goals as goal

pub returns-then-blocks-eq0-clause-keeps : goal.returns-then-blocks-eq0-clause-keeps
returns-then-blocks-eq0-clause-keeps g c = flushes_nothing c.args.self.now c.requires.ready.pieces _ _ _ _ c.args.ahead.now c.requires.ready.ahead

pub returns-then-blocks-eq0-clause-does : goal.returns-then-blocks-eq0-clause-does
returns-then-blocks-eq0-clause-does g c = record {
  added = [];
  adds = sym (with_records-nil (kept_now c.args.self.now));
  kinds = tt;
  live = live_same (state_now c.args.self.now);
  unharmed = λ told. tt;
  faults = effects_none _ _ refl;
  does = λ p moment covers. empty_does p (state_now c.args.self.now) c.requires.quiet
      (omega (arith, c.next_place.ensures, c.cursor.ensures, c.if-blocks-eq0.true, c.requires.ready.pieces.filled));
}

pub returns-then-blocks-eq0-clause-answers : goal.returns-then-blocks-eq0-clause-answers
returns-then-blocks-eq0-clause-answers g c =
    let none : (state_now c.args.self.now).filled ≡ 0 = omega (arith, c.next_place.ensures, c.cursor.ensures, c.if-blocks-eq0.true, c.requires.ready.pieces.filled) in
    record {
      tells = record { blocks = omega (arith, c.flushed.ensures.blocks, c.if-blocks-eq0.true, none); cursor = c.flushed.ensures.cursor; floor = c.flushed.ensures.floor };
      stops = tt;
      room = omega (arith, none);
    }

pub overflow_add-end : goal.overflow_add-end
overflow_add-end g c =
    let before = seen_now c.args.self.now in
    let fits = copies_end_fits before c.requires.ready.pieces.turning in
    let agg = ap (λ (x : Geometry). x.agg) c.geometry.ensures in
    omega (arith, c.next_cursor-next.ensures, agg, fits)

pub returns-then-end-ge-LIMIT-clause-keeps : goal.returns-then-end-ge-LIMIT-clause-keeps
returns-then-end-ge-LIMIT-clause-keeps g c = flushes_nothing c.args.self.now c.requires.ready.pieces _ _ _ _ c.args.ahead.now c.requires.ready.ahead

pub returns-then-end-ge-LIMIT-clause-does : goal.returns-then-end-ge-LIMIT-clause-does
returns-then-end-ge-LIMIT-clause-does g c =
    let s = state_now c.args.self.now in
    let before = seen_now c.args.self.now in
    let end = ap (λ n. n + budget_of c.geometry.result.now) c.next_cursor-next.ensures ∙ copies_end_is s before c.geometry.result.now c.requires.ready.pieces c.geometry.ensures in
    record {
      added = [];
      adds = sym (with_records-nil (kept_now c.args.self.now));
      kinds = tt;
      live = live_same s;
      unharmed = λ told. tt;
      faults = effects_none _ _ refl;
      does = λ p moment covers. exhausted_does p s c.requires.quiet
          (some_filled s before c.next_place.result c.cursor.result c.requires.ready.pieces c.next_place.ensures c.cursor.ensures c.if-blocks-eq0.false)
          (omega (arith, end, c.if-end-ge-LIMIT.true));
    }

pub returns-then-end-ge-LIMIT-clause-answers : goal.returns-then-end-ge-LIMIT-clause-answers
returns-then-end-ge-LIMIT-clause-answers g c =
    let end = ap (λ n. n + budget_of c.geometry.result.now) c.next_cursor-next.ensures
    ∙ copies_end_is (state_now c.args.self.now) (seen_now c.args.self.now) c.geometry.result.now c.requires.ready.pieces c.geometry.ensures in
    record { tells = tt; stops = (end, omega (arith, c.if-end-ge-LIMIT.true)); room = tt }

pub go_on-requires-clause-ready : goal.go_on-requires-clause-ready
go_on-requires-clause-ready g c =
    let a = c.look_ahead.new.ahead in
    let s = state_now c.args.self.now in
    let few = few_records c.args.now s _ _ a c.requires.ready.pieces.sound c.look_ahead.ensures.looks true in
    let enters = few_entries c.args.now s _ _ a c.requires.ready.pieces.sound c.look_ahead.ensures.looks in
    let room = ap (λ x. g.C.Chronicle.room x) c.look_ahead.ensures.keeps.chronicle in
    let spare = ap (λ (y : Seen). y.spare) c.write_out.ensures.same ∙ ap (λ (y : Seen). y.spare) c.look_ahead.ensures.keeps.same in
    record {
      pieces = device_may_change (state_now c.look_ahead.new.self) (seen_now c.look_ahead.new.self) (seen_cyclone c.write_out.new.self) c.look_ahead.ensures.keeps.pieces
          c.write_out.ensures.same c.write_out.ensures.turns (write_spares _ _ c.write_out.result c.write_out.ensures.device);
      records = omega (arith, few, room, c.requires.ready.records);
      entries = omega (arith, enters, spare, c.requires.ready.entries);
    }

pub go_on-requires-clause-out : goal.go_on-requires-clause-out
go_on-requires-clause-out g c = record {
  next = subst (λ x. c.next_cursor-next.result ≡ cursor_next (state_of (g.C.Chronicle.kept x))) (sym c.look_ahead.ensures.keeps.chronicle)
      (c.next_cursor-next.ensures ∙ next_is (state_now c.args.self.now) (seen_now c.args.self.now) c.requires.ready.pieces);
  below = omega (arith, c.if-end-ge-LIMIT.false);
  written = c.in-Ok.ensures.ok;
}

pub go_on-requires-clause-told : goal.go_on-requires-clause-told
go_on-requires-clause-told g c =
    let out = (seen_cyclone c.write_out.new.self).device in
    let a = c.look_ahead.new.ahead in
    subst (λ x. AreTellable true (state_of (g.C.Chronicle.kept x)) out.faults a.due.items a.fates.items) (sym c.look_ahead.ensures.keeps.chronicle)
    (tellable c.args.now (state_now c.args.self.now) _ _ a c.requires.ready.pieces.sound c.look_ahead.ensures.looks true out.faults c.write_out.ensures.device.cause.later)

pub go_on-requires-clause-copied : goal.go_on-requires-clause-copied
go_on-requires-clause-copied g c =
    let a = c.look_ahead.new.ahead in
    let packed = g.R.Directory.purges in
    let fit : packed ≡ true → AllFit (state_now c.args.self.now) = λ on.
    subst (λ x. AllFit (state_of (g.C.Chronicle.kept x))) c.look_ahead.ensures.keeps.chronicle
    (held_fit (state_now c.look_ahead.new.self) (seen_now c.look_ahead.new.self) c.look_ahead.ensures.keeps.pieces (c.rows_fit.ensures on)) in
    subst (λ x. AreCopyable packed (begun_behind (state_of (g.C.Chronicle.kept x)) (told_of_pieces true a.due.items a.fates.items)) 0 a.due.items a.fates.items a.bytes.items)
    (sym c.look_ahead.ensures.keeps.chronicle)
    (copyable c.args.now (state_now c.args.self.now) _ _ a c.requires.ready.pieces.sound c.look_ahead.ensures.looks packed fit c.look_ahead.ensures.ahead.bytes)

pub stop-requires-clause-ready : goal.stop-requires-clause-ready
stop-requires-clause-ready g c =
    let a = c.look_ahead.new.ahead in
    let few = few_records c.args.now (state_now c.args.self.now) _ _ a c.requires.ready.pieces.sound c.look_ahead.ensures.looks false in
    let room = ap (λ x. g.C.Chronicle.room x) c.look_ahead.ensures.keeps.chronicle in
    record {
      pieces = device_may_change (state_now c.look_ahead.new.self) (seen_now c.look_ahead.new.self) (seen_cyclone c.write_out.new.self) c.look_ahead.ensures.keeps.pieces
          c.write_out.ensures.same c.write_out.ensures.turns (write_spares _ _ c.write_out.result c.write_out.ensures.device);
      records = omega (arith, few, room, c.requires.ready.records);
      entries = omega arith;
    }

pub stop-requires-clause-told : goal.stop-requires-clause-told
stop-requires-clause-told g c =
    let out = (seen_cyclone c.write_out.new.self).device in
    let a = c.look_ahead.new.ahead in
    subst (λ x. AreTellable false (state_of (g.C.Chronicle.kept x)) out.faults a.due.items a.fates.items) (sym c.look_ahead.ensures.keeps.chronicle)
    (tellable c.args.now (state_now c.args.self.now) _ _ a c.requires.ready.pieces.sound c.look_ahead.ensures.looks false out.faults c.write_out.ensures.device.cause.later)

pub returns-in-Ok-clause-keeps : goal.returns-in-Ok-clause-keeps
returns-in-Ok-clause-keeps g c =
    let end = ap (λ n. n + budget_of c.geometry.result.now) c.next_cursor-next.ensures
    ∙ copies_end_is (state_now c.args.self.now) (seen_now c.args.self.now) c.geometry.result.now c.requires.ready.pieces c.geometry.ensures in
    let some = some_filled (state_now c.args.self.now) (seen_now c.args.self.now) c.next_place.result c.cursor.result c.requires.ready.pieces c.next_place.ensures c.cursor.ensures c.if-blocks-eq0.false in
    record {
      pieces =
          let s = state_now c.args.self.now in
          let before = seen_now c.args.self.now in
          let mid = seen_now c.look_ahead.new.self in
          let out = seen_cyclone c.write_out.new.self in
          let a = c.look_ahead.new.ahead in
          let e = c.look_ahead.ensures in
          record {
            held = c.go_on.ensures.pieces.held;
            contents = λ contents any stands.
                c.go_on.ensures.pieces.contents contents
                (λ told.
                let then : TellsAll mid.device = told_before mid.device out.device (write_goes_on mid out c.write_out.result c.write_out.ensures.device) told in
                subst (λ x. AreToldCopied contents (begun_behind (state_of (g.C.Chronicle.kept x)) (told_of_pieces true a.due.items a.fates.items)) 0 a.due.items a.fates.items a.bytes.items)
                (sym e.keeps.chronicle)
                (told_copied c.args.now s before.device mid.device a c.requires.ready.pieces.sound e.looks contents then (stands.written (told_before before.device mid.device e.keeps.asked.goes then))))
                (subst (λ x. AreStanding contents (state_of (g.C.Chronicle.kept x)) out) (sym e.keeps.chronicle)
                (stands_out contents s before mid out c.write_out.result c.requires.ready.pieces (subst (λ x. IsHeld (state_of (g.C.Chronicle.kept x)) mid) e.keeps.chronicle e.keeps.pieces)
                e.keeps.same e.keeps.asked e.keeps.seen c.write_out.ensures.same c.write_out.ensures.device stands));
          };
      ahead = c.look_ahead.ensures.ahead;
      still = λ nothing. absurd (writes_some (state_now c.args.self.now) some (omega (arith, end, c.if-end-ge-LIMIT.false)) nothing);
      uses =
          let s = state_now c.args.self.now in
          let before = seen_now c.args.self.now in
          let after = seen_now c.go_on.new.self in
          let a = c.look_ahead.new.ahead in
          let agg : before.geometry.agg ≡ s.geometry.agg = ap (λ (g : Geometry). g.agg) c.requires.ready.pieces.geometry in
          let records = few_records c.args.now s _ _ a c.requires.ready.pieces.sound c.look_ahead.ensures.looks true in
          let entries = few_entries c.args.now s _ _ a c.requires.ready.pieces.sound c.look_ahead.ensures.looks in
          let fits : length (told_of_pieces true a.due.items a.fates.items) + 1 + copies_among a.fates.items ≤ 2 * most_passed before.geometry + 1 = omega (arith, records, agg) in
          let enters : copies_among a.fates.items ≤ budget_of before.geometry = omega (arith, entries, agg) in
          subst (λ n. Uses (2 * most_passed before.geometry + 1) (budget_of before.geometry) 1 before.geometry.agg n (g.C.Chronicle.room c.go_on.new.self.chronicle) before after)
          (ap (λ x. g.C.Chronicle.room x) c.look_ahead.ensures.keeps.chronicle)
          (flush_uses _ _ _ _ _ _ before (seen_now c.look_ahead.new.self) (seen_cyclone c.write_out.new.self) after c.write_out.result
          c.look_ahead.ensures.keeps.same c.look_ahead.ensures.keeps.asked c.look_ahead.ensures.keeps.leaves c.write_out.ensures.same c.write_out.ensures.device c.requires.ready.pieces.turning.few c.go_on.ensures.uses fits enters);
    }

pub returns-in-Ok-clause-does : goal.returns-in-Ok-clause-does
returns-in-Ok-clause-does g c =
    let s = state_now c.args.self.now in
    let before = seen_now c.args.self.now in
    let after = (seen_now c.go_on.new.self).device in
    let a = c.look_ahead.new.ahead in
    let end = ap (λ n. n + budget_of c.geometry.result.now) c.next_cursor-next.ensures ∙ copies_end_is s before c.geometry.result.now c.requires.ready.pieces c.geometry.ensures in
    let some = some_filled s before c.next_place.result c.cursor.result c.requires.ready.pieces c.next_place.ensures c.cursor.ensures c.if-blocks-eq0.false in
    let mid = seen_now c.look_ahead.new.self in
    flush_asked c.args.now (kept_now c.args.self.now) (kept_now c.go_on.new.self) before.device mid.device after a
    c.flushed-in-Ok.result c.requires.ready.pieces.sound (can s c.requires.quiet some (omega (arith, end, c.if-end-ge-LIMIT.false))) c.look_ahead.ensures.looks
    (taken_by_write s before mid (seen_cyclone c.write_out.new.self) after c.requires.ready.pieces c.look_ahead.ensures.keeps.same c.in-Ok.ensures.device c.go_on.ensures.still)
    (subst (λ x. kept_now c.go_on.new.self ≡ with_records (g.C.Chronicle.kept x) (done_records (state_of (g.C.Chronicle.kept x)) a.due.items a.fates.items a.bytes.items))
    c.look_ahead.ensures.keeps.chronicle c.go_on.ensures.adds)

pub returns-in-Ok-clause-answers : goal.returns-in-Ok-clause-answers
returns-in-Ok-clause-answers g c = record {
  tells = record { blocks = omega (arith, c.flushed-in-Ok.ensures.blocks, c.next_place.ensures, c.cursor.ensures, c.requires.ready.pieces.filled); cursor = c.flushed-in-Ok.ensures.cursor; floor = c.flushed-in-Ok.ensures.floor };
  stops = tt;
  room =
      let s = state_now c.args.self.now in
      let after = seen_now c.go_on.new.self in
      let a = c.look_ahead.new.ahead in
      let recs = done_records s a.due.items a.fates.items a.bytes.items in
      let adds = subst (λ x. kept_now c.go_on.new.self ≡ with_records (g.C.Chronicle.kept x) (done_records (state_of (g.C.Chronicle.kept x)) a.due.items a.fates.items a.bytes.items))
      c.look_ahead.ensures.keeps.chronicle c.go_on.ensures.adds in
      let state : state_now c.go_on.new.self ≡ after_all s recs = ap state_of adds ∙ state_of-with_records (kept_now c.args.self.now) recs in
      let filled = half_is_free c.args.now s _ _ a c.requires.ready.pieces.sound c.look_ahead.ensures.looks in
      let out : (seen_cyclone c.write_out.new.self).geometry ≡ c.args.self.now.cyclone.geometry =
      ap (λ (y : Seen). y.geometry) c.write_out.ensures.same ∙ ap (λ (y : Seen). y.geometry) c.look_ahead.ensures.keeps.same in
      let geometry : (state_now c.go_on.new.self).geometry ≡ s.geometry = sym c.go_on.ensures.pieces.held.geometry ∙ (c.go_on.ensures.uses.same ∙ (out ∙ c.requires.ready.pieces.geometry)) in
      let same : (state_now c.go_on.new.self).filled ≡ (after_all s recs).filled = ap (λ (t : State). t.filled) state in
      subst (λ h. (state_now c.go_on.new.self).filled ≤ budget_of h) (sym geometry) (omega (arith, same, filled));
}

pub returns-in-Err-clause-keeps : goal.returns-in-Err-clause-keeps
returns-in-Err-clause-keeps g c =
    let end = ap (λ n. n + budget_of c.geometry.result.now) c.next_cursor-next.ensures
    ∙ copies_end_is (state_now c.args.self.now) (seen_now c.args.self.now) c.geometry.result.now c.requires.ready.pieces c.geometry.ensures in
    let some = some_filled (state_now c.args.self.now) (seen_now c.args.self.now) c.next_place.result c.cursor.result c.requires.ready.pieces c.next_place.ensures c.cursor.ensures c.if-blocks-eq0.false in
    record {
      pieces =
          let s = state_now c.args.self.now in
          let before = seen_now c.args.self.now in
          let mid = seen_now c.look_ahead.new.self in
          let out = seen_cyclone c.write_out.new.self in
          let a = c.look_ahead.new.ahead in
          let e = c.look_ahead.ensures in
          record {
            held = c.stop.ensures.keeps.pieces.held;
            contents = λ contents any stands.
                c.stop.ensures.keeps.pieces.contents contents tt
                (subst (λ x. AreStanding contents (state_of (g.C.Chronicle.kept x)) out) (sym e.keeps.chronicle)
                (stands_out contents s before mid out c.write_out.result c.requires.ready.pieces (subst (λ x. IsHeld (state_of (g.C.Chronicle.kept x)) mid) e.keeps.chronicle e.keeps.pieces)
                e.keeps.same e.keeps.asked e.keeps.seen c.write_out.ensures.same c.write_out.ensures.device stands));
          };
      ahead = c.look_ahead.ensures.ahead;
      still = λ nothing. absurd (writes_some (state_now c.args.self.now) some (omega (arith, end, c.if-end-ge-LIMIT.false)) nothing);
      uses =
          let s = state_now c.args.self.now in
          let before = seen_now c.args.self.now in
          let after = seen_now c.stop.new.self in
          let a = c.look_ahead.new.ahead in
          let agg : before.geometry.agg ≡ s.geometry.agg = ap (λ (g : Geometry). g.agg) c.requires.ready.pieces.geometry in
          let records = few_records c.args.now s _ _ a c.requires.ready.pieces.sound c.look_ahead.ensures.looks false in
          let fits : length (told_of_pieces false a.due.items a.fates.items) + 1 ≤ 2 * most_passed before.geometry + 1 =
          omega (arith, records, agg) in
          subst (λ n. Uses (2 * most_passed before.geometry + 1) (budget_of before.geometry) 1 before.geometry.agg n (g.C.Chronicle.room c.stop.new.self.chronicle) before after)
          (ap (λ x. g.C.Chronicle.room x) c.look_ahead.ensures.keeps.chronicle)
          (flush_uses _ _ _ _ _ _ before (seen_now c.look_ahead.new.self) (seen_cyclone c.write_out.new.self) after c.write_out.result
          c.look_ahead.ensures.keeps.same c.look_ahead.ensures.keeps.asked c.look_ahead.ensures.keeps.leaves c.write_out.ensures.same c.write_out.ensures.device c.requires.ready.pieces.turning.few c.stop.ensures.keeps.uses fits (omega arith));
    }

pub returns-in-Err-clause-does : goal.returns-in-Err-clause-does
returns-in-Err-clause-does g c =
    let s = state_now c.args.self.now in
    let before = seen_now c.args.self.now in
    let after = (seen_now c.stop.new.self).device in
    let out = (seen_cyclone c.write_out.new.self).device in
    let a = c.look_ahead.new.ahead in
    let end = ap (λ n. n + budget_of c.geometry.result.now) c.next_cursor-next.ensures ∙ copies_end_is s before c.geometry.result.now c.requires.ready.pieces c.geometry.ensures in
    let some = some_filled s before c.next_place.result c.cursor.result c.requires.ready.pieces c.next_place.ensures c.cursor.ensures c.if-blocks-eq0.false in
    let faults : after.faults ≡ out.faults = ap (λ (d : Device). d.faults) c.stop.ensures.keeps.still in
    let mid = seen_now c.look_ahead.new.self in
    let adds = subst (λ x. kept_now c.stop.new.self ≡ with_records (g.C.Chronicle.kept x) (told_of_pieces false a.due.items a.fates.items ++ rec.Fault out.faults ∷ []))
    c.look_ahead.ensures.keeps.chronicle c.stop.ensures.keeps.adds in
    subst (λ why. FlushesAsAsked c.args.now (kept_now c.args.self.now) (kept_now c.stop.new.self) before.device.past after (Err why))
    (ap (λ n. stop.DeviceFault n) faults ∙ sym c.stop.ensures.why)
    (stop_asked c.args.now (kept_now c.args.self.now) (kept_now c.stop.new.self) before.device mid.device after a
    c.requires.ready.pieces.sound (can s c.requires.quiet some (omega (arith, end, c.if-end-ge-LIMIT.false))) c.requires.ready.pieces.faults c.look_ahead.ensures.keeps.asked.later c.look_ahead.ensures.looks
    (left_by_write s before mid (seen_cyclone c.write_out.new.self) after c.in-Err.field-0 c.requires.ready.pieces c.look_ahead.ensures.keeps.same c.in-Err.ensures.device c.stop.ensures.keeps.still)
    (omega (arith, faults, c.in-Err.ensures.device.cause.failed))
    (subst (λ n. kept_now c.stop.new.self ≡ with_records (kept_now c.args.self.now) (told_of_pieces false a.due.items a.fates.items ++ rec.Fault n ∷ [])) (sym faults) adds))

pub returns-in-Err-clause-answers : goal.returns-in-Err-clause-answers
returns-in-Err-clause-answers g c = record {
  tells = tt;
  stops = subst (StopsWith (state_now c.args.self.now) (seen_now c.stop.new.self).device.faults) (sym c.stop.ensures.why)
      (sym (ap (λ (d : Device). d.faults) c.stop.ensures.keeps.still));
  room = tt;
}
