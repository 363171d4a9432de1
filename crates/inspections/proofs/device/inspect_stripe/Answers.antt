use Rattle.std.proofs.Common.{sym, subst}
use Rattle.device_reads.specs.Reads.{Fails}
use Rattle.inspections.proofs.Answering.{all_want, err_as, gates_fail, one_fails, other_fails, stripe_says}
use Rattle.inspections.proofs.device.inspect_stripe.Goals as goal

pub returns-in_err-gates-clause-fails : goal.returns-in_err-gates-clause-fails
returns-in_err-gates-clause-fails g c =
    let s = g.D.Disk.state c.args.disk.now in
    let t = g.D.Disk.state c.read_gates.new.disk in
    err_as c.from_residual.result (Fails 1 s.size 3 s t) c.from_residual.ensures.1
    (λ y is. subst (Fails 1 s.size 3 s t) (sym is) (gates_fail c.args.head.now s c.requires.laid t c.in_err-gates.field-0.0 c.in_err-gates.ensures.fails))

pub returns-in_err-a-clause-fails : goal.returns-in_err-a-clause-fails
returns-in_err-a-clause-fails g c =
    let s = g.D.Disk.state c.args.disk.now in
    let t = g.D.Disk.state c.read_gates.new.disk in
    let u = g.D.Disk.state c.read_side.new.disk in
    err_as c.from_residual-in_err-a.result (Fails 1 s.size 3 s u) c.from_residual-in_err-a.ensures.1
    (λ y is. subst (Fails 1 s.size 3 s u) (sym is)
    (one_fails c.args.head.now s c.requires.laid c.in_ok-gates.gates t u c.in_err-a.field-0.0 c.in_ok-gates.ensures.gates c.in_err-a.ensures.fails))

pub returns-in_err-b-clause-fails : goal.returns-in_err-b-clause-fails
returns-in_err-b-clause-fails g c =
    let s = g.D.Disk.state c.args.disk.now in
    let t = g.D.Disk.state c.read_gates.new.disk in
    let u = g.D.Disk.state c.read_side.new.disk in
    let v = g.D.Disk.state c.read_side-2.new.disk in
    err_as c.from_residual-in_err-b.result (Fails 1 s.size 3 s v) c.from_residual-in_err-b.ensures.1
    (λ y is. subst (Fails 1 s.size 3 s v) (sym is)
    (other_fails c.args.head.now s c.requires.laid c.in_ok-gates.gates t u c.in_ok-a.a v c.in_err-b.field-0.0 c.in_ok-gates.ensures.gates c.in_ok-a.ensures.copy c.in_err-b.ensures.fails))

pub returns-in_err-said_of-clause-fails : goal.returns-in_err-said_of-clause-fails
returns-in_err-said_of-clause-fails g c =
    let s = g.D.Disk.state c.args.disk.now in
    let t = g.D.Disk.state c.read_gates.new.disk in
    let u = g.D.Disk.state c.read_side.new.disk in
    let v = g.D.Disk.state c.read_side-2.new.disk in
    err_as c.from_residual-in_err-said_of.result (Fails 1 s.size 3 s v) c.from_residual-in_err-said_of.ensures.1
    (λ y is. subst (Fails 1 s.size 3 s v) (sym is)
    (all_want c.args.head.now s c.requires.laid c.in_ok-gates.gates t u c.in_ok-a.a v c.in_ok-b.b c.in_ok-gates.ensures.gates c.in_ok-a.ensures.copy c.in_ok-b.ensures.copy c.in_err-said_of.field-0.0))

pub returns-clause-says : goal.returns-clause-says
returns-clause-says g c =
    let s = g.D.Disk.state c.args.disk.now in
    let t = g.D.Disk.state c.read_gates.new.disk in
    let u = g.D.Disk.state c.read_side.new.disk in
    let v = g.D.Disk.state c.read_side-2.new.disk in
    stripe_says c.args.head.now s c.requires.laid c.in_ok-gates.gates t u c.in_ok-a.a v c.in_ok-b.b c.in_ok-gates.ensures.gates c.in_ok-a.ensures.copy c.in_ok-b.ensures.copy
    c.in_ok-said_of.field-0 c.in_ok-said_of.ensures.text c.in_ok-said_of.ensures.opens
