use Rattle.std.proofs.Common.{◌≡◌, true, length, sym, ap, ◌∙◌, arith, length-set}
use Rattle.dir_entry.specs.declared.entry.Entry.{Entry}
use Rattle.dir_segment.specs.Links.{at}
use Rattle.dir_segment.specs.Image.{walk}
use Rattle.dir_segment.proofs.Marking.{walk_on}
use Rattle.dir_segment.proofs.image.walk.Goals as goal

pub loop-preserved : goal.loop-preserved
loop-preserved c =
    let fine = sym c.is_bad_link.ensures ∙ c.if-is_bad_link.false in
    let new = sym c.has.ensures ∙ c.if-has.false in
    let next : c.get-slot.result.next ≡ (at c.args.slots.now c.loop.slot).next = ap (λ (e : Entry). e.next) c.get-slot.ensures.entry in
    record {
      size = ap length c.mark.ensures ∙ length-set c.loop.reached c.loop.slot true ∙ c.loop.invariant.size;
      end = c.loop.invariant.end;
      walks = rw (next, c.mark.ensures)
          (walk_on c.args.used c.args.slots.now (length c.args.slots.now) c.loop.counter c.loop.slot c.loop.reached (walk c.args.used c.args.slots.now (length c.args.slots.now) c.args.first c.args.reached.now)
          (omega (arith, c.loop-test.true, c.loop.invariant.end)) c.if-slot-eq0.false fine new c.loop.invariant.walks);
    }
