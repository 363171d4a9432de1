use Rattle.std.proofs.Common.{◌+◌, ◌<◌, Ok, Err, Some, ◌≡◌, ap, subst, sym, arith}
use Rattle.edge_io.proofs.Newlines.{clear_none, clear_longer}
use Rattle.edge_io.proofs.ReaderLemmas.{waits_begin, waits_more, joins, long_next, rest_next, undecided}
use Rattle.edge_io.specs.declared.reader.LineFault.TheVariants.{LineTooLong}
use Rattle.edge_io.specs.LineBuffer.{IsClear}
use Rattle.edge_io.specs.LineReader.{answer_so}
use Rattle.edge_io.proofs.reader.LineReader.advance.Goals as goal

pub search-init : goal.search-init
search-init g c = record {
  waits = waits_begin g.S.Source.reads g.S.Source.left c.args.self.now;
  within = omega arith;
  fits = omega arith;
  clear = clear_none c.args.self.now.buffer.rest;
}

pub fill-requires-clause-undecided : goal.fill-requires-clause-undecided
fill-requires-clause-undecided g c =
    undecided c.search.self.given c.search.self.buffer.rest c.search.invariant.within c.in_default.ensures.place (omega arith)

pub returns-then-searched-gt-MAX_LINE_BYTES : goal.returns-then-searched-gt-MAX_LINE_BYTES
returns-then-searched-gt-MAX_LINE_BYTES g c =
    joins g.S.Source.reads g.S.Source.left c.args.self.now c.search.self c.search.self (Err (LineTooLong (c.search.self.given + 1))) c.search.invariant.waits
    (long_next g.S.Source.reads g.S.Source.left c.search.self c.search.invariant.within c.in_default.ensures.place (omega arith))

pub returns-in-Ok-eq0 : goal.returns-in-Ok-eq0
returns-in-Ok-eq0 g c =
    let reads = g.S.Source.reads in
    let left = g.S.Source.left in
    let zero : c.in-Ok-eq0.field-0 ≡ 0 = omega arith in
    joins reads left c.args.self.now c.search.self c.give_rest.new.self (answer_so c.give_rest.new.self.buffer.line (Ok c.give_rest.result)) c.search.invariant.waits
    (rest_next reads left c.search.self c.fill.new.self c.give_rest.new.self c.give_rest.result c.search.invariant.within c.in_default.ensures.place (omega arith) (c.in-Ok-eq0.ensures.end (ap Ok zero)) c.give_rest.ensures)

pub search-preserved : goal.search-preserved
search-preserved g c =
    let reads = g.S.Source.reads in
    let left = g.S.Source.left in
    let old = c.search.self.buffer.rest in
    let free = undecided c.search.self.given old c.search.invariant.within c.in_default.ensures.place (omega arith) in
    let some : 0 < c.in-Ok.field-0 = omega arith in
    let waits = c.in-Ok.ensures.waits some in
    record {
      waits = waits_more reads left c.args.self.now c.search.self c.fill.new.self free c.search.invariant.waits waits;
      within = omega (arith, waits.given, c.search.invariant.within);
      fits = omega (arith, c.in-Ok.ensures.more);
      clear = subst (IsClear c.fill.new.self.buffer.rest) (sym c.len-searched.ensures.len) (clear_longer old c.fill.new.self.buffer.rest c.in-Ok.ensures.front c.in_default.ensures.place);
    }

pub returns-in-Err : goal.returns-in-Err
returns-in-Err g c =
    joins g.S.Source.reads g.S.Source.left c.args.self.now c.search.self c.fill.new.self (Err c.in-Err.fault) c.search.invariant.waits c.in-Err.ensures.fault

pub returns-in-Some : goal.returns-in-Some
returns-in-Some g c =
    joins g.S.Source.reads g.S.Source.left c.args.self.now c.search.self c.give_line.new.self (Ok (Some c.give_line.new.self.buffer.line)) c.search.invariant.waits c.give_line.ensures
