use Rattle.std.proofs.Common.{List, [], subst, refl, ◌∙◌, arith, length, ap}
use Rattle.edge_io.specs.LineReader.{source_of}
use Rattle.edge_io.proofs.Draws.{draws_more, draws_nothing}
use Rattle.script_run.specs.Ledger.{AreReached, ledger_of}
use Rattle.device_bay.specs.Calls.{refusals_of}
use Rattle.cache_replay.proofs.Order.{order_same, order_then}
use Rattle.run_promise.specs.Story.{Owes, OwesOrGave, refusals_around}
use Rattle.run_script.proofs.Ends.{begins, failed_earlier}
use Rattle.device_bay.specs.Calls.{AttachRefusal}
use Rattle.work_script.specs.Before.{BeforeBecause, EndsBy}
use Rattle.cache_replay.specs.Replay.{devices_in, returns_in}
use Rattle.run_script.proofs.Halts.{grows_more}
use Rattle.work_script.proofs.before.run_before.Goals as goal

pub lines-init : goal.lines-init
lines-init g c = record {
  goes = begins (g.S.Source.reads (source_of c.args.reader.now).now) (g.K.Sink.writes c.args.sink.now) (ledger_of g.B.Bay c.args.bay.now) _ _ _ _ c.requires.held c.requires.given c.requires.blank c.requires.fresh;
  replay = c.requires.replay;
  few = omega (arith, ap length c.requires.names);
  out = omega (arith, c.requires.none);
  source = refl;
  draws = draws_nothing g.S.Source.reads g.S.Source.left (source_of c.args.reader.now).now;
  failed = refl;
  sink = ([], refl);
  order = order_same _ _;
  refusals = refl;
}

pub lines-preserved : goal.lines-preserved
lines-preserved g c =
    let before = c.lines.invariant in
    record {
      goes = rw c.in-Ok-Line.field-0-is at (c.in-Ok-Line.ensures.goes _ _ _ before.goes);
      replay = c.line.ensures.replay;
      few = c.in-Ok-Line.ensures.few;
      out = omega (arith, c.line.ensures.out, before.out);
      source = c.line.ensures.source ∙ before.source;
      draws = draws_more g.S.Source.reads g.S.Source.left _ _ _ before.draws c.line.ensures.draws;
      failed = c.in-Ok-Line.ensures.reads ∙ before.failed;
      sink = grows_more _ _ _ before.sink c.line.ensures.sink;
      order = order_then _ _ _ _ _ _ before.order c.line.ensures.order;
      refusals = c.in-Ok-Line.ensures.refusals ∙ before.refusals;
    }

pub returns-in-Err-clause-ends : goal.returns-in-Err-clause-ends
returns-in-Err-clause-ends g c =
    let before = c.lines.invariant in
    let now = refusals_of (g.B.Bay.past c.line.new.bay) in
    subst (λ (old : List AttachRefusal). EndsBy (BeforeBecause (refusals_around old now)) (g.S.Source.reads (source_of c.args.reader.now).now) (g.S.Source.reads (source_of c.line.new.reader).now) (g.K.Sink.writes c.args.sink.now) (g.K.Sink.writes c.line.new.sink)
    (Owes (ledger_of g.B.Bay c.args.bay.now) (ledger_of g.B.Bay c.line.new.bay) (λ harms. AreReached harms (returns_in c.line.new.replay)))
    (OwesOrGave (ledger_of g.B.Bay c.args.bay.now) (ledger_of g.B.Bay c.line.new.bay) (devices_in c.line.new.replay) (λ harms. AreReached harms (returns_in c.line.new.replay))) c.in-Err.ending)
    before.refusals (c.in-Err.ensures.ends _ _ _ before.goes)

pub returns-in-Err-clause-reads : goal.returns-in-Err-clause-reads
returns-in-Err-clause-reads g c = failed_earlier _ _ _ c.in-Err.ending c.lines.invariant.failed c.in-Err.ensures.reads

pub returns-in-Err-clause-draws : goal.returns-in-Err-clause-draws
returns-in-Err-clause-draws g c = draws_more g.S.Source.reads g.S.Source.left _ _ _ c.lines.invariant.draws c.line.ensures.draws

pub returns-in-Err-clause-sink : goal.returns-in-Err-clause-sink
returns-in-Err-clause-sink g c = grows_more _ _ _ c.lines.invariant.sink c.line.ensures.sink

pub returns-in-Err-clause-order : goal.returns-in-Err-clause-order
returns-in-Err-clause-order g c = order_then _ _ _ _ _ _ c.lines.invariant.order c.line.ensures.order

pub returns-in-Err-clause-refusals : goal.returns-in-Err-clause-refusals
returns-in-Err-clause-refusals g c = λ other. c.in-Err.ensures.refusals other ∙ c.lines.invariant.refusals

pub returns-in-Ok-Jobs-clause-splits : goal.returns-in-Ok-Jobs-clause-splits
returns-in-Ok-Jobs-clause-splits g c = rw c.in-Ok-Jobs.field-0-is at (c.in-Ok-Jobs.ensures.goes _ _ _ c.lines.invariant.goes)

pub returns-in-Ok-Jobs-clause-draws : goal.returns-in-Ok-Jobs-clause-draws
returns-in-Ok-Jobs-clause-draws g c = draws_more g.S.Source.reads g.S.Source.left _ _ _ c.lines.invariant.draws c.line.ensures.draws

pub returns-in-Ok-Jobs-clause-sink : goal.returns-in-Ok-Jobs-clause-sink
returns-in-Ok-Jobs-clause-sink g c = grows_more _ _ _ c.lines.invariant.sink c.line.ensures.sink

pub returns-in-Ok-Jobs-clause-order : goal.returns-in-Ok-Jobs-clause-order
returns-in-Ok-Jobs-clause-order g c = order_then _ _ _ _ _ _ c.lines.invariant.order c.line.ensures.order
