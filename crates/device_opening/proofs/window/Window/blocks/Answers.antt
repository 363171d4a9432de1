use Rattle.std.proofs.Common.{◌≡◌, ◌*◌, ◌-◌, ◌/◌, ◌+◌, length, take, drop, ap, ◌∙◌, arith}
use Rattle.device_opening.proofs.Windows.{part_of_window}
use Rattle.device_opening.proofs.window.Window.blocks.Goals as goal

pub returns-clause-shows : goal.returns-clause-shows
returns-clause-shows c = λ image whole shows.
    let w = c.args.self.now in
    let at = c.args.at in
    let n = length w.bytes.items / 512 in
    let start = 512 * (at - w.first) in
    let count : start + 512 * c.args.blocks - start ≡ 512 * c.args.blocks = omega arith in
    ap (λ k. take k (drop start c.deref.result.now)) count
    ∙ part_of_window image whole w.first n at c.args.blocks c.deref.result.now (c.deref.ensures.value ∙ shows) c.requires.from c.requires.within
