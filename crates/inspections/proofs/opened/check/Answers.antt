use Rattle.std.proofs.Common.{refl, sym, subst, ◌∙◌}
use Rattle.std.specs.Prelude.{string_bytes}
use Rattle.inspections.specs.Check.{FailsOnce}
use Rattle.inspections.proofs.Answering.{err_as}
use Rattle.inspections.proofs.Checking.{fault_checks, opened_checks, opened_wants}
use Rattle.inspections.proofs.opened.check.Goals as goal

pub returns-in_err-said_of-in-Ok-clause-fails : goal.returns-in_err-said_of-in-Ok-clause-fails
returns-in_err-said_of-in-Ok-clause-fails g c =
    let s = g.D.Disk.state c.args.disk.now in
    let t = g.D.Disk.state c.read_opening.new.disk in
    err_as c.from_residual.result (FailsOnce s t) c.from_residual.ensures.1
    (λ y is. subst (FailsOnce s t) (sym is) (opened_wants s t c.in-Ok.read c.in-Ok.ensures.opens c.in_err-said_of-in-Ok.field-0.0))

pub returns-in-Ok-clause-says : goal.returns-in-Ok-clause-says
returns-in-Ok-clause-says g c =
    let said = c.in_ok-said_of-in-Ok.field-0 in
    opened_checks (g.D.Disk.state c.args.disk.now) (g.D.Disk.state c.read_opening.new.disk) c.in-Ok.read c.in-Ok.ensures.opens (string_bytes said.text) said.opens
    c.in_ok-said_of-in-Ok.ensures.text c.in_ok-said_of-in-Ok.ensures.opens

pub returns-in-None-clause-says : goal.returns-in-None-clause-says
returns-in-None-clause-says g c =
    fault_checks (g.D.Disk.state c.args.disk.now) (g.D.Disk.state c.read_opening.new.disk) (string_bytes c.new.result) _ c.new.ensures.bytes refl c.in-Err.fault
    (sym c.stop_of.ensures ∙ c.in-None.is) c.in-Err.ensures.fault
