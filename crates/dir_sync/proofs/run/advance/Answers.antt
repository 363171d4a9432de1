use Rattle.dir_sync.proofs.Writings.{answer_moments, answer_spares, answer_stands, answer_opens}
use Rattle.dir_sync.proofs.run.advance.Goals as goal

pub returns-clause-moments : goal.returns-clause-moments
returns-clause-moments g c stands =
    let old = g.D.Disk.state c.args.disk.now in
    let new = g.D.Disk.state c.write_parts.new.disk in
    answer_moments c.args.area.now c.args.side c.args.body.now c.args.p c.args.n old new
    (record {
      whole = c.requires.whole;
      some = c.requires.some;
      within = c.requires.next;
      begun = c.requires.begun;
    })
    (g.met.D.Disk.was_image c.args.disk.now) (g.met.D.Disk.is_log c.write_parts.new.disk)
    c.write_parts.result c.write_parts.ensures.went c.write_parts.ensures.halts stands

pub returns-clause-stands : goal.returns-clause-stands
returns-clause-stands g c stands =
    let old = g.D.Disk.state c.args.disk.now in
    let new = g.D.Disk.state c.write_parts.new.disk in
    answer_stands c.args.area.now c.args.side c.args.body.now c.args.p c.args.n old new
    (record {
      whole = c.requires.whole;
      some = c.requires.some;
      within = c.requires.next;
      begun = c.requires.begun;
    })
    (g.met.D.Disk.was_image c.args.disk.now) (g.met.D.Disk.is_log c.write_parts.new.disk)
    c.write_parts.result c.write_parts.ensures.keeps.settled c.write_parts.ensures.keeps.first
    c.write_parts.ensures.went c.write_parts.ensures.halts stands

pub returns-clause-spares : goal.returns-clause-spares
returns-clause-spares g c =
    answer_spares c.args.area.now c.args.side c.args.body.now c.args.p c.args.n
    (g.D.Disk.state c.args.disk.now) (g.D.Disk.state c.write_parts.new.disk)
    (record {
      whole = c.requires.whole;
      some = c.requires.some;
      within = c.requires.next;
      begun = c.requires.begun;
    })
    (g.met.D.Disk.was_image c.args.disk.now) (g.met.D.Disk.is_log c.write_parts.new.disk)
    c.write_parts.result c.write_parts.ensures.went c.write_parts.ensures.halts

pub returns-clause-opens : goal.returns-clause-opens
returns-clause-opens g c last =
    answer_opens c.args.area.now c.args.side c.args.body.now c.args.p c.args.n
    (g.D.Disk.state c.args.disk.now) (g.D.Disk.state c.write_parts.new.disk)
    c.write_parts.result c.write_parts.ensures.keeps.settled c.write_parts.ensures.keeps.first
    c.write_parts.ensures.went last
