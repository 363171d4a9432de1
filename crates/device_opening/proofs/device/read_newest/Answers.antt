use Rattle.std.proofs.Common.{min, Result, sym, subst}
use Rattle.stripe_header.specs.declared.area.Area.{Area}
use Rattle.stripe_header.specs.declared.states.SpanFault.{SpanFault}
use Rattle.device_reads.specs.Reads.{Reads}
use Rattle.device_opening.specs.Faults.{IsFaultOf, SpanIs}
use Rattle.device_opening.proofs.Answering.{err_as}
use Rattle.device_opening.proofs.Stripes.{span_refused, span_stops, stripe_read, stripe_refused}
use Rattle.device_opening.proofs.device.read_newest.Goals as goal

pub returns-in_err-area-clause-fault : goal.returns-in_err-area-clause-fault
returns-in_err-area-clause-fault g c =
    let s = g.D.Disk.state c.args.disk.now in
    let t = g.D.Disk.state c.read_area.new.disk in
    err_as c.from_residual.result (IsFaultOf s t) c.from_residual.ensures.1
    (λ y is. subst (IsFaultOf s t) (sym is) (span_stops s t c.in_err-area.field-0.0 c.in_err-area.ensures.fails))

pub returns-in-Err-clause-fault : goal.returns-in-Err-clause-fault
returns-in-Err-clause-fault g c =
    let s = g.D.Disk.state c.args.disk.now in
    let t = g.D.Disk.state c.read_area.new.disk in
    span_refused s t c.in-Err.fault
    (subst (λ (r : Result Area SpanFault). Reads 0 (min 1 s.size) 1 s t (λ image. SpanIs (image 0) s.size r)) c.in-Err.is c.in_ok-area.ensures.span)

pub returns-in_err-chosen-clause-fault : goal.returns-in_err-chosen-clause-fault
returns-in_err-chosen-clause-fault g c =
    let s = g.D.Disk.state c.args.disk.now in
    let t = g.D.Disk.state c.read_area.new.disk in
    let u = g.D.Disk.state c.read_chosen.new.disk in
    let a = c.in-Ok.area in
    let front = subst (λ (r : Result Area SpanFault). Reads 0 (min 1 s.size) 1 s t (λ image. SpanIs (image 0) s.size r)) c.in-Ok.is c.in_ok-area.ensures.span in
    let laid = rw c.in-Ok.is at c.in_ok-area.ensures.laid in
    err_as c.from_residual-in_err-chosen.result (IsFaultOf s u) c.from_residual-in_err-chosen.ensures.1
    (λ y is. subst (IsFaultOf s u) (sym is) (stripe_refused s t a laid front u c.in_err-chosen.field-0.0 c.in_err-chosen.ensures.fault))

pub returns-clause-newest : goal.returns-clause-newest
returns-clause-newest g c =
    let s = g.D.Disk.state c.args.disk.now in
    let t = g.D.Disk.state c.read_area.new.disk in
    let u = g.D.Disk.state c.read_chosen.new.disk in
    let a = c.in-Ok.area in
    let front = subst (λ (r : Result Area SpanFault). Reads 0 (min 1 s.size) 1 s t (λ image. SpanIs (image 0) s.size r)) c.in-Ok.is c.in_ok-area.ensures.span in
    let laid = rw c.in-Ok.is at c.in_ok-area.ensures.laid in
    stripe_read s t a laid front u c.in_ok-chosen.chosen c.in_ok-chosen.ensures.chosen
