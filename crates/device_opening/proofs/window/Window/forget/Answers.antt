use Rattle.std.proofs.Common.{rules, ◌≡◌, ◌*◌, ◌/◌, length, arith}
use Rattle.device_opening.proofs.Windows.{shows_from}
use Rattle.device_opening.proofs.window.Window.forget.Goals as goal

pub returns-clause-shows : goal.returns-clause-shows
returns-clause-shows c = λ image whole shows.
    let w = c.args.self.now in
    let at = c.args.at in
    let n = length w.bytes.items / 512 in
    let long : length w.bytes.items ≡ 512 * n = let m = w.whole in omega (arith, m) in
    shows_from image whole w.first n at w.bytes.items long shows c.requires.rising _ (search rules) _ c.drop_front.ensures
