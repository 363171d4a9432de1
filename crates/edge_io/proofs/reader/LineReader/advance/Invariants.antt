use Rattle.std.proofs.Common.{◌-◌, length}
use Rattle.edge_io.specs.declared.buffer.TheConstants.{CAPACITY}
use Rattle.edge_io.proofs.Reading.{Searches}
use Rattle.edge_io.proofs.reader.LineReader.advance.Given as goal

abbrev pub invariant-search : goal.invariant-search
invariant-search g l = Searches g.S.Source.reads g.S.Source.left l.initial.self l.self l.searched

abbrev pub decreases-search : goal.decreases-search
decreases-search g l = CAPACITY - length l.self.buffer.rest
