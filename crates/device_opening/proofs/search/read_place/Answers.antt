use Rattle.std.proofs.Common.{rules, ℕ, sym, subst}
use Rattle.device_reads.specs.Reads.{Fails}
use Rattle.device_opening.specs.Tape.{end_of_stretch, end_of_window}
use Rattle.device_opening.proofs.Answering.{err_as}
use Rattle.device_opening.proofs.Looking.{judge_wants, none_stands, one_stands, rest_fails}
use Rattle.device_opening.proofs.search.read_place.Goals as goal

pub returns-in_default-clause-standing : goal.returns-in_default-clause-standing
returns-in_default-clause-standing g c =
    let s = g.D.Disk.state c.args.disk.now in
    let t = g.D.Disk.state c.cover.new.disk in
    let stretch = c.args.stretch.now in
    none_stands stretch.area stretch.told c.args.group.now c.args.place s t t c.args.window.now c.cover.new.self c.cover.new.self c.block_of-at.result c.block_of-at.ensures.value
    c.in_ok-cover.ensures.reads c.blocks-head.result.now c.blocks-head.ensures.shows (search rules)

pub returns-in_err-cover-2-clause-fails : goal.returns-in_err-cover-2-clause-fails
returns-in_err-cover-2-clause-fails g c =
    let s = g.D.Disk.state c.args.disk.now in
    let t = g.D.Disk.state c.cover.new.disk in
    let u = g.D.Disk.state c.cover-2.new.disk in
    let stretch = c.args.stretch.now in
    let low = end_of_window c.args.window.now in
    err_as c.from_residual-in_err-cover-2.result (Fails low (end_of_stretch stretch) 2 s u) c.from_residual-in_err-cover-2.ensures.1
    (λ y is. subst (Fails low (end_of_stretch stretch) 2 s u) (sym is)
    (rest_fails stretch.area stretch.told c.args.group.now c.args.place s t u c.args.window.now c.cover.new.self c.cover.new.self c.block_of-at.result c.block_of-at.ensures.value
    c.in_ok-cover.ensures.reads c.blocks-head.result.now c.blocks-head.ensures.shows (end_of_stretch stretch) c.in_err-cover-2.field-0.0
    (subst (λ (k : ℕ). Fails (end_of_window c.cover.new.self) k 1 t u c.in_err-cover-2.field-0.0) c.end-limit.ensures c.in_err-cover-2.ensures.fails)))

pub returns-in_err-judged-clause-fails : goal.returns-in_err-judged-clause-fails
returns-in_err-judged-clause-fails g c =
    let s = g.D.Disk.state c.args.disk.now in
    let t = g.D.Disk.state c.cover.new.disk in
    let u = g.D.Disk.state c.cover-2.new.disk in
    let stretch = c.args.stretch.now in
    let low = end_of_window c.args.window.now in
    err_as c.from_residual-in_err-judged.result (Fails low (end_of_stretch stretch) 2 s u) c.from_residual-in_err-judged.ensures.1
    (λ y is. subst (Fails low (end_of_stretch stretch) 2 s u) (sym is)
    (judge_wants stretch.area stretch.told c.args.group.now c.args.place s t u c.args.window.now c.cover.new.self c.cover-2.new.self c.block_of-at.result c.block_of-at.ensures.value
    c.in_ok-cover.ensures.reads c.blocks-head.result.now c.blocks-head.ensures.shows c.in_ok-cover-2.ensures.reads (end_of_stretch stretch) (search rules) c.in_err-judged.field-0.0))

pub returns-clause-standing : goal.returns-clause-standing
returns-clause-standing g c =
    let s = g.D.Disk.state c.args.disk.now in
    let t = g.D.Disk.state c.cover.new.disk in
    let u = g.D.Disk.state c.cover-2.new.disk in
    let stretch = c.args.stretch.now in
    one_stands stretch.area stretch.told c.args.group.now c.args.place s t u c.args.window.now c.cover.new.self c.cover-2.new.self c.block_of-at.result c.block_of-at.ensures.value
    c.in_ok-cover.ensures.reads c.blocks-head.result.now c.blocks-head.ensures.shows c.in_ok-cover-2.ensures.reads
    c.in-Some.blocks c.in-Some.ensures.blocks c.in-Some.ensures.passes c.blocks-bytes.result.now c.blocks-bytes.ensures.shows _ c.in_ok-judged.ensures
