use Rattle.std.proofs.Common.{◌<◌, ◌++◌, ◌+◌, ◌-◌, ap, ◌∙◌, arith}
use Rattle.reopening.specs.Slices.{image_of}
use Rattle.reopening.specs.Tests.{standing_from}
use Rattle.reopening.proofs.Turns.{standing_more}
use Rattle.reopening.proofs.standing.standing_from.Goals as goal

pub loop-place-preserved : goal.loop-place-preserved
loop-place-preserved c =
    let a = c.args.area.now in
    let told = c.args.told.now in
    let rows = c.args.rows.now in
    let image = image_of c.args.image.now in
    let place = c.loop-place.place in
    let lt : place < told.cursor = grind (arith, c.loop-place-test.true) in
    ap (λ l. l ++ standing_from a told rows image (place + 1) (told.cursor - (place + 1))) c.in_ok-add.ensures
    ∙ standing_more a told rows image c.loop-place.all.items (standing_from a told rows image c.args.low (told.cursor - c.args.low)) place told.cursor
    c.in_ok-standing.standing lt c.in_ok-standing.ensures c.loop-place.invariant
