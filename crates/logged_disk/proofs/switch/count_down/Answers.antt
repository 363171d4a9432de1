use Rattle.std.proofs.Common.{rules, ◌<◌, ◌∙◌, refl, length, ap}
use Rattle.logged_disk.proofs.Counted.{none_counted, one_due, one_stays}
use Rattle.logged_disk.proofs.switch.count_down.Goals.{then-left-eq1, else-left-eq1}
use Rattle.logged_disk.proofs.switch.count_down.Goals as goal

pub loop-i-init : goal.loop-i-init
loop-i-init c = (none_counted c.args.armed.now.items, refl)

pub loop-i-preserved : goal.loop-i-preserved
loop-i-preserved c =
    let old = c.args.armed.now.items in
    let now = c.loop-i.armed.items in
    let low : c.loop-i.i < length old = search rules in
    elim c.if-left-eq1.branch [
      | then-left-eq1 w ↦ (
        rw (w.armed-is, w.due-is, w.kept-is) (one_due old now c.loop-i.i c.loop-i.kept c.index-left.result.now c.loop-i.due low c.loop-i.invariant.0 c.index-left.ensures w.if-left-eq1.true),
        ap (λ v. v.cap) w.armed-is ∙ c.loop-i.invariant.1,
      )
      | else-left-eq1 w ↦ (
        rw (w.armed-is, w.due-is, w.kept-is) (one_stays old now c.loop-i.i c.loop-i.kept c.index-left.result.now w.saturating_sub.result c.loop-i.due low c.loop-i.invariant.0 c.index-left.ensures w.if-left-eq1.false w.saturating_sub.ensures),
        ap (λ v. v.cap) w.armed-is ∙ c.loop-i.invariant.1,
      )
    ]
