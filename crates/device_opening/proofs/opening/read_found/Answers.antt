use Rattle.std.proofs.Common.{◌*◌, length, sym, subst, arith}
use Rattle.stripe_header.specs.Layout.{content_of, device_blocks}
use Rattle.device_reads.specs.Reads.{Fails}
use Rattle.device_opening.proofs.Answering.{err_as, wants_after}
use Rattle.device_opening.proofs.opening.read_found.Goals as goal

pub returns-in_err-kept_rows-clause-fails : goal.returns-in_err-kept_rows-clause-fails
returns-in_err-kept_rows-clause-fails g c =
    let low = content_of c.args.area.now in
    let top = device_blocks c.args.area.now in
    let most = 2 * length c.args.rows.now in
    let s = g.D.Disk.state c.args.disk.now in
    let t = g.D.Disk.state c.read_standing.new.disk in
    err_as c.from_residual-in_err-kept_rows.result (Fails low top most s t) c.from_residual-in_err-kept_rows.ensures.1
    (λ y is. subst (Fails low top most s t) (sym is)
    (wants_after low top top most s t _ c.in_err-kept_rows.field-0.0 (omega arith) c.in_ok-standing.ensures.standing))
