use Rattle.std.proofs.Common.{◌<◌, ap, length, take, arith}
use Rattle.edge_io.proofs.Draws.{reads_once}
use Rattle.edge_io.proofs.Ranges.{behind_put}
use Rattle.edge_io.proofs.buffer.read_behind.Goals as goal

pub returns-clause-reads : goal.returns-clause-reads
returns-clause-reads g c =
    let some : 0 < length c.read.new.into = omega arith in
    reads_once g.S.Source.reads g.S.Source.left c.args.source.now c.read.new.self c.read.new.into _ c.read.result some (λ n. ap (take n) (behind_put c.args.bytes.now c.read.new.into c.args.end c.requires)) c.read.ensures.logs c.read.ensures.left
