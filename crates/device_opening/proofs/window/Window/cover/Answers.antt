use Rattle.std.proofs.Common.{rules, ◌≤◌}
use Rattle.device_opening.proofs.Answering.{err_map}
use Rattle.device_reads.specs.Reads.{Fails}
use Rattle.device_opening.specs.Tape.{end_of_window}
use Rattle.device_opening.proofs.WindowReads.{fails_through, none_read, shows_through}
use Rattle.device_opening.proofs.window.Window.cover.Goals as goal

pub returns-then-at-blocks-clause-reads : goal.returns-then-at-blocks-clause-reads
returns-then-at-blocks-clause-reads g c = none_read (g.D.Disk.state c.args.disk.now) c.args.self.now

pub returns-clause-reads : goal.returns-clause-reads
returns-clause-reads g c =
    shows_through (g.D.Disk.state c.args.disk.now) (g.D.Disk.state c.extend.new.disk) c.args.self.now c.forget.new.self c.extend.new.self c.args.at c.forget.ensures.end
    c.extend.result c.forget.ensures.shows _ c.extend.ensures.end c.extend.ensures.reads

pub returns-clause-fails : goal.returns-clause-fails
returns-clause-fails g c =
    let s = g.D.Disk.state c.args.disk.now in
    let t = g.D.Disk.state c.extend.new.disk in
    let within : c.max.result ≤ c.args.limit = search rules in
    err_map c.extend.result (Fails (end_of_window c.args.self.now) c.args.limit 1 s t)
    (λ e fails. fails_through s t c.args.self.now c.forget.new.self c.extend.new.self c.args.at c.forget.ensures.end e _ c.args.limit within fails) c.extend.ensures.fails
