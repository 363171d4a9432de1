use Rattle.std.proofs.Common.{min, false, Option, refl, sym, subst}
use Rattle.std.specs.Prelude.{string_bytes}
use Rattle.device_reads.specs.Reads.{Fails, Reads}
use Rattle.inspections.specs.declared.head.Head.{Head}
use Rattle.inspections.specs.Head.{HeadIs}
use Rattle.inspections.specs.Inspect.{Says}
use Rattle.inspections.proofs.Answering.{device_says, err_as, err_map, head_fails, none_says, ok_map, stripe_fails}
use Rattle.inspections.proofs.device.inspect.Goals as goal

pub returns-in_err-read_head-clause-fails : goal.returns-in_err-read_head-clause-fails
returns-in_err-read_head-clause-fails g c =
    let s = g.D.Disk.state c.args.disk.now in
    let t = g.D.Disk.state c.read_head.new.disk in
    err_as c.from_residual.result (Fails 0 s.size 4 s t) c.from_residual.ensures.1
    (λ y is. subst (Fails 0 s.size 4 s t) (sym is) (head_fails s t _ c.in_err-read_head.ensures.fails))

pub returns-in-None-clause-says : goal.returns-in-None-clause-says
returns-in-None-clause-says g c =
    let s = g.D.Disk.state c.args.disk.now in
    let t = g.D.Disk.state c.read_head.new.disk in
    none_says s t (string_bytes c.new.result) false c.new.ensures.bytes refl
    (subst (λ (o : Option Head). Reads 0 (min 1 s.size) 1 s t (λ image. HeadIs (image 0) s.size o)) c.in-None.is c.in_ok-read_head.ensures.head)

pub returns-in-Some-clause-says : goal.returns-in-Some-clause-says
returns-in-Some-clause-says g c =
    let s = g.D.Disk.state c.args.disk.now in
    let t = g.D.Disk.state c.read_head.new.disk in
    let u = g.D.Disk.state c.inspect_stripe.new.disk in
    let front = subst (λ (o : Option Head). Reads 0 (min 1 s.size) 1 s t (λ image. HeadIs (image 0) s.size o)) c.in-Some.is c.in_ok-read_head.ensures.head in
    ok_map c.inspect_stripe.result (λ said. Reads 0 s.size 4 s u (λ image. Says s.size image (string_bytes said.text) said.opens))
    (λ said reads. device_says s t c.in-Some.head front u said reads) c.inspect_stripe.ensures.says

pub returns-in-Some-clause-fails : goal.returns-in-Some-clause-fails
returns-in-Some-clause-fails g c =
    let s = g.D.Disk.state c.args.disk.now in
    let t = g.D.Disk.state c.read_head.new.disk in
    let u = g.D.Disk.state c.inspect_stripe.new.disk in
    let front = subst (λ (o : Option Head). Reads 0 (min 1 s.size) 1 s t (λ image. HeadIs (image 0) s.size o)) c.in-Some.is c.in_ok-read_head.ensures.head in
    err_map c.inspect_stripe.result (Fails 0 s.size 4 s u) (λ e fails. stripe_fails s t c.in-Some.head front u e fails) c.inspect_stripe.ensures.fails
