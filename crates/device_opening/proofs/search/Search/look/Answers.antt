use Rattle.std.proofs.Common.{sym, subst}
use Rattle.device_reads.specs.Reads.{Fails}
use Rattle.device_opening.specs.Tape.{end_of_stretch, end_of_window}
use Rattle.device_opening.proofs.Answering.{err_as, wants_after}
use Rattle.device_opening.proofs.search.Search.look.Goals as goal

pub returns-in_err-add-clause-fails : goal.returns-in_err-add-clause-fails
returns-in_err-add-clause-fails g c =
    let s = g.D.Disk.state c.args.disk.now in
    let t = g.D.Disk.state c.read_place.new.disk in
    let low = end_of_window c.args.self.now.window in
    let top = end_of_stretch c.args.stretch.now in
    err_as c.from_residual-in_err-add.result (Fails low top 2 s t) c.from_residual-in_err-add.ensures.1
    (λ y is. subst (Fails low top 2 s t) (sym is)
    (wants_after low (end_of_window c.read_place.new.window) top 2 s t _ c.in_err-add.field-0.0 c.in_ok-standing.ensures.window.1 c.in_ok-standing.ensures.standing))
