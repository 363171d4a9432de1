use Rattle.std.proofs.Common.{◌≡◌, ◌+◌, arith}
use Rattle.device_log.specs.Image.{span}
use Rattle.device_reads.proofs.Telling.{reads_as, reads_none}
use Rattle.stripe_header.specs.declared.states.CopyFault.TheVariants as copy_faults
use Rattle.stripe_header.specs.Layout.{body_blocks, body_of, gate_of}
use Rattle.device_opening.specs.declared.copies.CopyRead.TheVariants.{Refused}
use Rattle.device_opening.specs.Copies.{IsSideOf}
use Rattle.device_opening.proofs.Copying.{shut_as_read, side_as_read}
use Rattle.device_opening.proofs.copies.read_side.Goals as goal

pub returns-then-gate-ne1-clause-copy : goal.returns-then-gate-ne1-clause-copy
returns-then-gate-ne1-clause-copy g c =
    let area = c.args.area.now in
    let side = c.args.side in
    let gate = c.args.gate.now in
    reads_none (body_of area side) (body_of area side + body_blocks area) 1 (g.D.Disk.state c.args.disk.now)
    (λ image. gate ≡ image (gate_of side) → IsSideOf area image side (Refused copy_faults.GateShut)) (omega arith)
    (λ image is told. shut_as_read area image side gate told c.if-gate-ne1.true)

pub returns-clause-copy : goal.returns-clause-copy
returns-clause-copy g c =
    let area = c.args.area.now in
    let side = c.args.side in
    let at = body_of area side in
    let n = body_blocks area in
    let gate = c.args.gate.now in
    let body = c.in_ok-body.body.items in
    let copy = c.copy_in.result in
    reads_as at (at + n) (at + n) 1 1 (g.D.Disk.state c.args.disk.now) (g.D.Disk.state c.read_body.new.disk)
    (λ image. body ≡ span image at n) (λ image. gate ≡ image (gate_of side) → IsSideOf area image side copy) (omega arith) (omega arith)
    (λ image is read same. side_as_read area image side gate body copy same read c.copy_in.ensures.copy) c.in_ok-body.ensures.body
