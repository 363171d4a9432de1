use Rattle.std.proofs.Common.{◌*◌, length, sym, subst, arith}
use Rattle.device_reads.specs.Reads.{Fails}
use Rattle.device_opening.specs.Tape.{end_of_stretch}
use Rattle.device_opening.proofs.Answering.{err_as}
use Rattle.device_opening.proofs.Searching.{all_found, all_from, begun, behind_fewer, first_from, look_fails, looked, none_from, passed}
use Rattle.device_opening.proofs.search.read_stretch.Goals.{in-Some+then-place-stretch, in_default}
use Rattle.device_opening.proofs.search.read_stretch.Goals as goal

pub each-init : goal.each-init
each-init g c =
    begun c.args.stretch.now c.args.rows.now (g.D.Disk.state c.args.disk.now) c.new-search.result c.requires.stretch.order c.requires.ascend
    c.new-search.ensures.window.0 c.new-search.ensures.window.1 c.new-search.ensures.found c.new-search.ensures.next

pub returns-in_err-look-clause-fails : goal.returns-in_err-look-clause-fails
returns-in_err-look-clause-fails g c =
    let s = g.D.Disk.state c.args.disk.now in
    let t = g.D.Disk.state c.each.disk in
    let u = g.D.Disk.state c.look.new.disk in
    let stretch = c.args.stretch.now in
    let rows = c.args.rows.now in
    let rest = c.each.rest.now in
    let some = behind_fewer rest c.split_at_place.result.0.now c.split_at_place.result.1.now c.in-Some.row.now c.split_at_place.ensures.all (sym c.in-Some.ensures.value) c.split_at_place.ensures.above in
    err_as c.from_residual.result (Fails stretch.first (end_of_stretch stretch) (2 * length rows) s u) c.from_residual.ensures.1
    (λ y is. subst (Fails stretch.first (end_of_stretch stretch) (2 * length rows) s u) (sym is)
    (look_fails stretch rows s c.each.search t rest u c.in_err-look.field-0.0 (omega (arith, some)) c.each.invariant c.in_err-look.ensures.fails))

pub each-preserved-in_ok-look : goal.each-preserved-in_ok-look
each-preserved-in_ok-look g c =
    let s = g.D.Disk.state c.args.disk.now in
    let t = g.D.Disk.state c.each.disk in
    let u = g.D.Disk.state c.look.new.disk in
    let stretch = c.args.stretch.now in
    let rest = c.each.rest.now in
    let row = c.in-Some.row.now in
    let group = c.split_at_place.result.0.now in
    let behind = c.split_at_place.result.1.now in
    let there = sym c.in-Some.ensures.value in
    looked stretch c.args.rows.now s c.each.search t c.look.new.self u rest group behind row.place c.split_at_place.ensures.all c.split_at_place.ensures.below c.split_at_place.ensures.above
    c.split_at_place.ensures.back (first_from rest row c.each.invariant.ascend there)
    (behind_fewer rest group behind row c.split_at_place.ensures.all there c.split_at_place.ensures.above)
    c.if-place-search.true c.if-place-stretch.false c.in_ok-look.ensures.search c.in_ok-look.ensures.next c.in_ok-look.ensures.unrefused c.in_ok-look.ensures.looked c.each.invariant

pub each-preserved : goal.each-preserved
each-preserved g c =
    let s = g.D.Disk.state c.args.disk.now in
    let t = g.D.Disk.state c.each.disk in
    let rest = c.each.rest.now in
    let row = c.in-Some.row.now in
    let group = c.split_at_place.result.0.now in
    let behind = c.split_at_place.result.1.now in
    let less = behind_fewer rest group behind row c.split_at_place.ensures.all (sym c.in-Some.ensures.value) c.split_at_place.ensures.above in
    passed c.args.stretch.now c.args.rows.now s c.each.search t rest group behind row.place c.split_at_place.ensures.all c.split_at_place.ensures.below c.split_at_place.ensures.back
    (omega (arith, less)) c.if-place-search.false c.each.invariant

pub returns-clause-standing : goal.returns-clause-standing
returns-clause-standing g c =
    let s = g.D.Disk.state c.args.disk.now in
    let t = g.D.Disk.state c.each.disk in
    let stretch = c.args.stretch.now in
    let rest = c.each.rest.now in
    elim c.match-first.branch [
      | in-Some+then-place-stretch w ↦
          all_found stretch c.args.rows.now s c.each.search t rest
          (all_from rest w.in-Some.row.now stretch.high c.each.invariant.ascend (sym w.in-Some.ensures.value) w.if-place-stretch.true) c.each.invariant
      | in_default w ↦ all_found stretch c.args.rows.now s c.each.search t rest (none_from rest stretch.high (sym w.in_default.ensures.value)) c.each.invariant
    ]
