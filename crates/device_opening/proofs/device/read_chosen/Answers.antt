use Rattle.std.proofs.Common.{sym, subst}
use Rattle.device_opening.specs.Faults.{IsFaultIn}
use Rattle.device_opening.proofs.Answering.{err_as}
use Rattle.device_opening.proofs.Stripes.{copies_refused, copies_stop, copy_chosen}
use Rattle.device_opening.proofs.device.read_chosen.Goals as goal

pub returns-in_err-copies-clause-fault : goal.returns-in_err-copies-clause-fault
returns-in_err-copies-clause-fault g c =
    let a = c.args.area.now in
    let s = g.D.Disk.state c.args.disk.now in
    let t = g.D.Disk.state c.read_copies.new.disk in
    err_as c.from_residual.result (IsFaultIn a s t) c.from_residual.ensures.1
    (λ y is. subst (IsFaultIn a s t) (sym is) (copies_stop a s t c.in_err-copies.field-0.0 c.in_err-copies.ensures.fails))

pub returns-in_err-choose-clause-fault : goal.returns-in_err-choose-clause-fault
returns-in_err-choose-clause-fault g c =
    let a = c.args.area.now in
    let s = g.D.Disk.state c.args.disk.now in
    let t = g.D.Disk.state c.read_copies.new.disk in
    err_as c.from_residual-in_err-choose.result (IsFaultIn a s t) c.from_residual-in_err-choose.ensures.1
    (λ y is. subst (IsFaultIn a s t) (sym is) (copies_refused a s t c.in_ok-copies.copies c.in_ok-copies.ensures.copies c.in_err-choose.field-0.0 c.in_err-choose.ensures.fault))

pub returns-clause-chosen : goal.returns-clause-chosen
returns-clause-chosen g c =
    copy_chosen c.args.area.now (g.D.Disk.state c.args.disk.now) (g.D.Disk.state c.read_copies.new.disk) c.in_ok-copies.copies c.in_ok-copies.ensures.copies c.in_ok-choose.field-0 c.in_ok-choose.ensures.chosen
