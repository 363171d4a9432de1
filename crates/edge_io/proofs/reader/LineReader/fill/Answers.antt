use Rattle.std.proofs.Common.{refl}
use Rattle.edge_io.proofs.ReaderLemmas.{read_ends, read_fails, read_waits}
use Rattle.edge_io.proofs.reader.LineReader.fill.Goals as goal

pub returns-in-Ok-clause-waits : goal.returns-in-Ok-clause-waits
returns-in-Ok-clause-waits g c =
    λ some. read_waits g.S.Source.reads g.S.Source.left c.args.self.now _ c.requires.undecided refl refl c.in-Ok.count some c.in-Ok.ensures.reads c.in-Ok.ensures.front

pub returns-in-Ok-clause-end : goal.returns-in-Ok-clause-end
returns-in-Ok-clause-end g c =
    λ none. read_ends g.S.Source.reads g.S.Source.left c.args.self.now _ c.requires.undecided refl refl c.in-Ok.count (cc) c.in-Ok.ensures.reads c.in-Ok.ensures.front c.in-Ok.ensures.more

pub returns-in-Err-clause-fault : goal.returns-in-Err-clause-fault
returns-in-Err-clause-fault g c =
    read_fails g.S.Source.reads g.S.Source.left c.args.self.now _ c.requires.undecided refl refl c.faults.result c.in-Err.ensures.reads c.in-Err.ensures.err c.faults.ensures
