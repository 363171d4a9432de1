use Rattle.std.proofs.Common.{arith, ◌<◌, ◌≡◌, ◌≤◌, length, Ok, Err, ap}
use Rattle.edge_io.specs.declared.reader.TheConstants.{MAX_LINES}
use Rattle.edge_io.specs.declared.reader.LineFault.TheVariants.{TooManyLines}
use Rattle.edge_io.proofs.ReaderLemmas.{end_next, joins, many_next}
use Rattle.edge_io.proofs.reader.LineReader.behind_last.Goals as goal

pub returns-then-len-gt0 : goal.returns-then-len-gt0
returns-then-len-gt0 g c =
    let some : 0 < length c.args.self.now.buffer.rest = omega arith in
    many_next g.S.Source.reads g.S.Source.left c.args.self.now c.requires some

pub returns-in-Ok-eq0 : goal.returns-in-Ok-eq0
returns-in-Ok-eq0 g c =
    let none : length c.args.self.now.buffer.rest ≡ 0 = omega arith in
    let zero : c.in-Ok-eq0.field-0 ≡ 0 = omega arith in
    end_next g.S.Source.reads g.S.Source.left c.args.self.now c.fill.new.self none (c.in-Ok-eq0.ensures.end (ap Ok zero))

pub returns-in-Ok : goal.returns-in-Ok
returns-in-Ok g c =
    let reads = g.S.Source.reads in
    let left = g.S.Source.left in
    let read : 0 < c.in-Ok.field-0 = omega arith in
    let waits = c.in-Ok.ensures.waits read in
    let some : 0 < length c.fill.new.self.buffer.rest = omega (arith, c.in-Ok.ensures.more) in
    let all : MAX_LINES ≤ c.fill.new.self.given = omega (arith, waits.given, c.requires) in
    joins reads left c.args.self.now c.fill.new.self c.fill.new.self (Err TooManyLines) waits (many_next reads left c.fill.new.self all some)
