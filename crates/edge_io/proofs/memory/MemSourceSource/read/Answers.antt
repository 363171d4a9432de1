use Rattle.std.proofs.Common.{◌≡◌, take, drop, length, min, arith}
use Rattle.std.proofs.lemmas.Grind.{common_steps}
use Rattle.edge_io.proofs.Writes.{source_left}
use Rattle.edge_io.proofs.memory.MemSourceSource.read.Goals as goal

pub returns-clause-left : goal.returns-clause-left
returns-clause-left c =
    let source = c.args.self.now in
    let n = c.copy_front-len.result in
    let place = c.copy_front-len.new.into in
    let count : n ≡ min source.piece (min (length (drop source.at source.bytes.items)) (length place)) = grind (arith, common_steps) in
    let copied : take n place ≡ take n (drop source.at source.bytes.items) = grind (arith, common_steps) in
    source_left source.bytes.items place source.at n source.piece source.some count copied
