use Rattle.dir_sync.proofs.Writings.{bar_keeps, bar_stands}
use Rattle.dir_sync.proofs.run.bar.Goals as goal

pub returns-clause-holds : goal.returns-clause-holds
returns-clause-holds g c =
    bar_keeps c.args.area.now c.args.side c.args.shut
    (g.D.Disk.state c.args.disk.now) (g.D.Disk.state c.shut_gate.new.disk)
    (g.met.D.Disk.was_image c.args.disk.now) (g.met.D.Disk.is_log c.shut_gate.new.disk)
    c.shut_gate.result c.shut_gate.ensures.keeps.first c.shut_gate.ensures.went
    c.shut_gate.ensures.stopped

pub returns-clause-stands : goal.returns-clause-stands
returns-clause-stands g c known =
    bar_stands c.args.area.now c.args.side c.args.body.now c.args.shut
    (g.D.Disk.state c.args.disk.now) (g.D.Disk.state c.shut_gate.new.disk)
    c.shut_gate.result c.shut_gate.ensures.keeps.settled c.shut_gate.ensures.keeps.first
    c.shut_gate.ensures.went known
