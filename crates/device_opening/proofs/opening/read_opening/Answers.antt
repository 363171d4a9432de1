use Rattle.std.proofs.Common.{rules, ◌≡◌, ◌*◌, List, length, sym, subst}
use Rattle.stripe_header.specs.Layout.{content_of, device_blocks}
use Rattle.dir_table.specs.declared.rows.StoredRow.{StoredRow}
use Rattle.device_reads.specs.Reads.{Fails, Reads}
use Rattle.reopening.specs.Opens.{found_of}
use Rattle.device_opening.specs.Faults.{IsFaultWithin}
use Rattle.device_opening.proofs.Answering.{err_as}
use Rattle.device_opening.proofs.Opened.{found_fails, front_of, opening_is}
use Rattle.device_opening.proofs.opening.read_opening.Goals as goal

pub returns-in_err-found-clause-fault : goal.returns-in_err-found-clause-fault
returns-in_err-found-clause-fault g c =
    let s = g.D.Disk.state c.args.disk.now in
    let t = g.D.Disk.state c.read_newest.new.disk in
    let u = g.D.Disk.state c.read_found.new.disk in
    err_as c.from_residual-in_err-found.result (IsFaultWithin s u) c.from_residual-in_err-found.ensures.1
    (λ y is. subst (IsFaultWithin s u) (sym is)
    (found_fails s t u c.in_ok-area.field-0 c.in_ok-area.ensures.laid c.by_place-rows.result.items c.by_place-rows.ensures.all c.in_ok-area.ensures.newest c.in_err-found.field-0.0
    (subst (λ (l : List StoredRow). Fails (content_of c.in_ok-area.field-0.area) (device_blocks c.in_ok-area.field-0.area) (2 * length l) t u c.in_err-found.field-0.0) c.deref.ensures.value c.in_err-found.ensures.fails)))

pub returns-clause-opens : goal.returns-clause-opens
returns-clause-opens g c =
    let s = g.D.Disk.state c.args.disk.now in
    let t = g.D.Disk.state c.read_newest.new.disk in
    let u = g.D.Disk.state c.read_found.new.disk in
    let area = c.in_ok-area.field-0.area in
    opening_is s t u _ c.in_ok-area.field-0.chosen.rows.items c.in_ok-area.ensures.laid c.by_place-rows.ensures.all
    (front_of s t c.in_ok-area.field-0 c.in_ok-area.ensures.newest)
    (subst (λ (l : List StoredRow). Reads (content_of area) (device_blocks area) (2 * length l) t u (λ image. c.in_ok-found.found ≡ found_of area c.in_ok-area.field-0.chosen.taken.newest.told l image))
    c.deref.ensures.value c.in_ok-found.ensures.found)
    (search rules)
