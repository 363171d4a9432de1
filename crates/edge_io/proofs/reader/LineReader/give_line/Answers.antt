use Rattle.edge_io.proofs.ReaderLemmas.{line_next}
use Rattle.edge_io.proofs.reader.LineReader.give_line.Goals as goal

pub returns : goal.returns
returns g c =
    line_next g.S.Source.reads g.S.Source.left c.args.self.now c.take_line.new.self c.args.len
    c.requires.within c.requires.newline c.requires.short c.take_line.ensures.line c.take_line.ensures.rest
