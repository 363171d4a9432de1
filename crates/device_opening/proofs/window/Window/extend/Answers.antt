use Rattle.std.proofs.Common.{rules, ◌≡◌, ◌+◌, ◌*◌, ◌/◌, ◌-◌, length, arith}
use Rattle.device_opening.proofs.WindowReads.{shows_on}
use Rattle.device_opening.proofs.window.Window.extend.Goals as goal

pub returns-clause-reads : goal.returns-clause-reads
returns-clause-reads g c =
    let s = g.D.Disk.state c.args.disk.now in
    let t = g.D.Disk.state c.read_on.new.disk in
    let w = c.args.self.now in
    let n = length w.bytes.items / 512 in
    let long : length w.bytes.items ≡ 512 * n = let m = w.whole in omega (arith, m) in
    let end : c.end-end.result + (c.args.to - c.end-end.result) ≡ c.args.to = search rules in
    shows_on c.read_on.result s t w.first n c.end-end.result (c.args.to - c.end-end.result) c.args.to w.bytes.items c.read_on.new.bytes.items long c.end-end.ensures end
    c.read_on.ensures.len c.read_on.ensures.front c.read_on.ensures.reads
