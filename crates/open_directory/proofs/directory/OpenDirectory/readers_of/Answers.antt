use Rattle.std.proofs.Common.{arith}
use Rattle.open_directory.specs.Nexts.{nexts_of}
use Rattle.open_directory.proofs.LeastNext.{least_is}
use Rattle.open_directory.proofs.directory.OpenDirectory.readers_of.Goals as goal

pub returns : goal.returns
returns c =
    let index = c.self.inside.index.trees.entries in
    let readers = c.self.inside.readers.entries in
    let least = least_is c.args.put (nexts_of c.args.put index) readers (c.self.invariant.index.least c.args.put) (c.self.invariant.index.nexts c.args.put) c.len-readers.ensures.rise in
    grind arith
