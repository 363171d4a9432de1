use Rattle.std.proofs.Common.{◌*◌, length, sym, subst}
use Rattle.stripe_header.specs.Layout.{content_of, device_blocks}
use Rattle.device_reads.specs.Reads.{Fails}
use Rattle.device_opening.proofs.Answering.{err_as}
use Rattle.device_opening.proofs.BothLaps.{before_fails, both_stand, both_want, here_fails}
use Rattle.device_opening.proofs.standing.read_standing.Goals as goal

pub returns-in_err-here-clause-fails : goal.returns-in_err-here-clause-fails
returns-in_err-here-clause-fails g c =
    let a = c.args.area.now in
    let rows = c.args.rows.now in
    let s = g.D.Disk.state c.args.disk.now in
    let t = g.D.Disk.state c.read_stretch.new.disk in
    err_as c.from_residual.result (Fails (content_of a) (device_blocks a) (2 * length rows) s t) c.from_residual.ensures.1
    (λ y is. subst (Fails (content_of a) (device_blocks a) (2 * length rows) s t) (sym is)
    (here_fails a c.args.told.now c.stretches_of-stretches.result c.stretches_of-stretches.ensures rows c.split_at_place.result.0.now c.split_at_place.result.1.now c.split_at_place.ensures.all s t
    c.in_err-here.field-0.0 c.in_err-here.ensures.fails))

pub returns-in_err-all-clause-fails : goal.returns-in_err-all-clause-fails
returns-in_err-all-clause-fails g c =
    let a = c.args.area.now in
    let rows = c.args.rows.now in
    let s = g.D.Disk.state c.args.disk.now in
    let t = g.D.Disk.state c.read_stretch.new.disk in
    let u = g.D.Disk.state c.read_stretch-2.new.disk in
    err_as c.from_residual-in_err-all.result (Fails (content_of a) (device_blocks a) (2 * length rows) s u) c.from_residual-in_err-all.ensures.1
    (λ y is. subst (Fails (content_of a) (device_blocks a) (2 * length rows) s u) (sym is)
    (before_fails a c.args.told.now c.stretches_of-stretches.result c.stretches_of-stretches.ensures rows c.split_at_place.result.0.now c.split_at_place.result.1.now c.split_at_place.ensures.all s t
    c.in_ok-here.here.items c.in_ok-here.ensures.standing u c.in_err-all.field-0.0 c.in_err-all.ensures.fails))

pub returns-in_err-append-clause-fails : goal.returns-in_err-append-clause-fails
returns-in_err-append-clause-fails g c =
    let a = c.args.area.now in
    let rows = c.args.rows.now in
    let s = g.D.Disk.state c.args.disk.now in
    let t = g.D.Disk.state c.read_stretch.new.disk in
    let u = g.D.Disk.state c.read_stretch-2.new.disk in
    err_as c.from_residual-in_err-append.result (Fails (content_of a) (device_blocks a) (2 * length rows) s u) c.from_residual-in_err-append.ensures.1
    (λ y is. subst (Fails (content_of a) (device_blocks a) (2 * length rows) s u) (sym is)
    (both_want a c.args.told.now c.stretches_of-stretches.result c.stretches_of-stretches.ensures rows c.split_at_place.result.0.now c.split_at_place.result.1.now c.split_at_place.ensures.all s t
    c.in_ok-here.here.items c.in_ok-here.ensures.standing u c.in_ok-all.all.items c.in_ok-all.ensures.standing c.in_err-append.field-0.0))

pub returns-clause-standing : goal.returns-clause-standing
returns-clause-standing g c =
    let s = g.D.Disk.state c.args.disk.now in
    let t = g.D.Disk.state c.read_stretch.new.disk in
    let u = g.D.Disk.state c.read_stretch-2.new.disk in
    both_stand c.args.area.now c.args.told.now c.stretches_of-stretches.result c.stretches_of-stretches.ensures c.args.rows.now c.split_at_place.result.0.now c.split_at_place.result.1.now
    c.split_at_place.ensures.all s t c.in_ok-here.here.items c.in_ok-here.ensures.standing u c.in_ok-all.all.items c.in_ok-all.ensures.standing
    c.split_at_place.ensures.below c.split_at_place.ensures.above _ c.in_ok-append.ensures.items
