use Rattle.std.proofs.Common.{◌≡◌, ◌+◌, ap, sym, subst, ◌∙◌, arith}
use Rattle.device_log.specs.Image.{span}
use Rattle.device_reads.specs.Reads.{Fails}
use Rattle.device_reads.proofs.Telling.{reads_as, reads_none, wants_behind}
use Rattle.stripe_header.specs.declared.states.CopyFault.TheVariants as copy_faults
use Rattle.stripe_header.specs.Layout.{body_blocks, body_of, gate_of}
use Rattle.inspections.specs.declared.copies.CopyRead.TheVariants.{Refused}
use Rattle.inspections.specs.Copies.{copy_in, copy_of}
use Rattle.inspections.proofs.Answering.{err_as}
use Rattle.inspections.proofs.Copying.{copy_as_read, shut_as_read}
use Rattle.inspections.proofs.copies.read_side.Goals as goal

pub returns-then-gate-ne1-clause-copy : goal.returns-then-gate-ne1-clause-copy
returns-then-gate-ne1-clause-copy g c =
    let area = c.args.area.now in
    let side = c.args.side in
    let gate = c.args.gate.now in
    reads_none (body_of area side) (body_of area side + body_blocks area) 1 (g.D.Disk.state c.args.disk.now)
    (λ image. gate ≡ image (gate_of side) → Refused copy_faults.GateShut ≡ copy_of area image side) (omega arith)
    (λ image is told. shut_as_read area image is side gate told c.if-gate-ne1.true)

pub returns-in_err-copy_in-clause-fails : goal.returns-in_err-copy_in-clause-fails
returns-in_err-copy_in-clause-fails g c =
    let at = body_of c.args.area.now c.args.side in
    let n = body_blocks c.args.area.now in
    let s = g.D.Disk.state c.args.disk.now in
    let t = g.D.Disk.state c.read_body.new.disk in
    err_as c.from_residual-in_err-copy_in.result (Fails at (at + n) 1 s t) c.from_residual-in_err-copy_in.ensures.1
    (λ y is. subst (Fails at (at + n) 1 s t) (sym is)
    (wants_behind at (at + n) 1 s t (λ image. c.in_ok-body.body.items ≡ span image at n) c.in_err-copy_in.field-0.0 c.in_ok-body.ensures.body))

pub returns-clause-copy : goal.returns-clause-copy
returns-clause-copy g c =
    let area = c.args.area.now in
    let side = c.args.side in
    let at = body_of area side in
    let n = body_blocks area in
    let gate = c.args.gate.now in
    let body = c.in_ok-body.body.items in
    let copy = c.in_ok-copy_in.field-0 in
    let told : copy ≡ copy_in area.geometry gate body = c.in_ok-copy_in.ensures ∙ ap (copy_in area.geometry gate) c.deref.ensures.value in
    reads_as at (at + n) (at + n) 1 1 (g.D.Disk.state c.args.disk.now) (g.D.Disk.state c.read_body.new.disk)
    (λ image. body ≡ span image at n) (λ image. gate ≡ image (gate_of side) → copy ≡ copy_of area image side) (omega arith) (omega arith)
    (λ image is read same. told ∙ copy_as_read area image is side gate body same read) c.in_ok-body.ensures.body
