use Rattle.std.proofs.Common.{refl, sym, subst}
use Rattle.stripe_header.specs.Layout.{content_of}
use Rattle.device_reads.specs.Reads.{Fails}
use Rattle.device_opening.proofs.Answering.{err_as}
use Rattle.device_opening.proofs.ReadingCopies.{copies_read, gates_fail, one_fails, other_fails}
use Rattle.device_opening.proofs.copies.read_copies.Goals as goal

pub returns-in_err-gates-clause-fails : goal.returns-in_err-gates-clause-fails
returns-in_err-gates-clause-fails g c =
    let s = g.D.Disk.state c.args.disk.now in
    let t = g.D.Disk.state c.read_gates.new.disk in
    let top = content_of c.args.area.now in
    err_as c.from_residual.result (Fails 1 top 3 s t) c.from_residual.ensures.1
    (λ y is. subst (Fails 1 top 3 s t) (sym is) (gates_fail c.args.area.now s t c.in_err-gates.field-0.0 c.in_err-gates.ensures.fails))

pub returns-in_err-a-clause-fails : goal.returns-in_err-a-clause-fails
returns-in_err-a-clause-fails g c =
    let s = g.D.Disk.state c.args.disk.now in
    let t = g.D.Disk.state c.read_gates.new.disk in
    let u = g.D.Disk.state c.read_side.new.disk in
    let top = content_of c.args.area.now in
    err_as c.from_residual-in_err-a.result (Fails 1 top 3 s u) c.from_residual-in_err-a.ensures.1
    (λ y is. subst (Fails 1 top 3 s u) (sym is)
    (one_fails c.args.area.now s t c.in_ok-gates.gates c.in_ok-gates.ensures.gates u c.in_err-a.field-0.0 c.in_err-a.ensures.fails))

pub returns-in_err-b-clause-fails : goal.returns-in_err-b-clause-fails
returns-in_err-b-clause-fails g c =
    let s = g.D.Disk.state c.args.disk.now in
    let t = g.D.Disk.state c.read_gates.new.disk in
    let u = g.D.Disk.state c.read_side.new.disk in
    let v = g.D.Disk.state c.read_side-2.new.disk in
    let top = content_of c.args.area.now in
    err_as c.from_residual-in_err-b.result (Fails 1 top 3 s v) c.from_residual-in_err-b.ensures.1
    (λ y is. subst (Fails 1 top 3 s v) (sym is)
    (other_fails c.args.area.now s t c.in_ok-gates.gates c.in_ok-gates.ensures.gates u c.in_ok-a.a c.in_ok-a.ensures.copy v c.in_err-b.field-0.0 c.in_err-b.ensures.fails))

pub returns-clause-copies : goal.returns-clause-copies
returns-clause-copies g c =
    let s = g.D.Disk.state c.args.disk.now in
    let t = g.D.Disk.state c.read_gates.new.disk in
    let u = g.D.Disk.state c.read_side.new.disk in
    let v = g.D.Disk.state c.read_side-2.new.disk in
    copies_read c.args.area.now s t c.in_ok-gates.gates c.in_ok-gates.ensures.gates u c.in_ok-a.a c.in_ok-a.ensures.copy v c.in_ok-b.b c.in_ok-b.ensures.copy _ refl
