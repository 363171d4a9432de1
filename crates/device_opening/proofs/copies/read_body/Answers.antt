use Rattle.std.proofs.Common.{◌+◌, sym, subst, arith}
use Rattle.device_reads.specs.Reads.{Fails}
use Rattle.device_reads.proofs.Telling.{wants_none}
use Rattle.stripe_header.specs.Layout.{body_blocks, body_of}
use Rattle.device_opening.proofs.Answering.{err_as}
use Rattle.device_opening.proofs.copies.read_body.Goals as goal

pub returns-in_err-body-clause-fails : goal.returns-in_err-body-clause-fails
returns-in_err-body-clause-fails g c =
    let at = body_of c.args.area.now c.args.side in
    let top = at + body_blocks c.args.area.now in
    let s = g.D.Disk.state c.args.disk.now in
    err_as c.from_residual.result (Fails at top 1 s s) c.from_residual.ensures.1
    (λ y is. subst (Fails at top 1 s s) (sym is) (wants_none at top 1 s c.in_err-body.field-0.0 (omega arith)))
