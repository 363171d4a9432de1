use Rattle.std.proofs.Common.{Ok, rules, refl, subst, sym, true}
use Rattle.device_log.specs.Calls.{Fail, PowerCut, StopAfter, Told}
use Rattle.cache_replay.specs.Bare.{TellsBare}
use Rattle.cache_replay.specs.declared.bare_lines.BareOrder.TheVariants as order
use Rattle.cache_replay.proofs.BareLines.{told_one}
use Rattle.cache_replay.proofs.bare_lines.tell.Goals as goal

pub returns-in-Fail : goal.returns-in-Fail
returns-in-Fail g c =
    let first = g.D.Disk.state c.args.device.now in
    let last = g.D.Disk.state c.fail.new.self in
    subst (λ o. TellsBare o first last (Ok true)) (sym c.in-Fail.is)
    (told_one (order.Fail c.in-Fail.nth) first (g.D.Disk.state c.make_room.new.self) last (Told (Fail c.max.result)) (search rules) (search rules) c.in_ok-make_room.ensures.keeps
    c.in_ok-make_room.ensures.room c.fail.ensures.keeps c.fail.ensures.logs)

pub returns-in-StopAfter : goal.returns-in-StopAfter
returns-in-StopAfter g c =
    let first = g.D.Disk.state c.args.device.now in
    let last = g.D.Disk.state c.stop_after.new.self in
    subst (λ o. TellsBare o first last (Ok true)) (sym c.in-StopAfter.is)
    (told_one (order.StopAfter c.in-StopAfter.calls) first (g.D.Disk.state c.make_room.new.self) last (Told (StopAfter c.in-StopAfter.calls)) (search rules) refl
    c.in_ok-make_room.ensures.keeps c.in_ok-make_room.ensures.room c.stop_after.ensures.keeps c.stop_after.ensures.logs)

pub returns-in-Cut : goal.returns-in-Cut
returns-in-Cut g c =
    let first = g.D.Disk.state c.args.device.now in
    let last = g.D.Disk.state c.cut.new.self in
    subst (λ o. TellsBare o first last (Ok true)) (sym c.in-Cut.is)
    (told_one (order.Cut c.in-Cut.choice) first (g.D.Disk.state c.make_room.new.self) last (PowerCut c.in-Cut.choice c.cut.ensures.logs.0) (search rules) (c.cut.ensures.logs.0, refl)
    c.in_ok-make_room.ensures.keeps c.in_ok-make_room.ensures.room c.cut.ensures.keeps c.cut.ensures.logs.1)
