use Rattle.inspections.proofs.Copying.{faulty_entries, sound_entries}
use Rattle.inspections.proofs.copies.entries_in_bytes.Goals as goal

pub returns-in-Ok : goal.returns-in-Ok
returns-in-Ok c = sound_entries c.args.g.now c.args.bytes.now c.in-Ok.count c.in-Ok.ensures.count c.in-Ok.ensures.sound

pub returns-in-Err-Segment : goal.returns-in-Err-Segment
returns-in-Err-Segment c =
    faulty_entries c.args.g.now c.args.bytes.now _ _ (rw c.in-Err-Segment.field-0-is at c.in-Err-Segment.ensures.fault)
