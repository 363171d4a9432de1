-- The story goes on from the first line; the replay holds together, and the counts only rise.
use Rattle.std.proofs.Common.{◌≡◌, ◌+◌, ◌-◌, ◌≤◌, length}
use Rattle.edge_io.specs.declared.reader.TheConstants.{MAX_LINES}
use Rattle.edge_io.specs.Source.{Draws, NoReadFailed}
use Rattle.edge_io.specs.Sink.{Grows}
use Rattle.edge_io.specs.LineReader.{held, lines_given, source_of}
use Rattle.cache_replay.specs.Replay.{IsReplay, devices_in, actors_in, returns_in, IsOutlined, PlaysOn}
use Rattle.device_bay.specs.Calls.{out_of, refusals_of}
use Rattle.script_run.specs.Ledger.{KeepsOrder, ledger_of}
use Rattle.run_promise.specs.Story.{GoesOn}
use Rattle.work_script.proofs.before.run_before.Given as goal

abbrev pub invariant-lines : goal.invariant-lines
invariant-lines g l = record {
  goes : GoesOn (g.S.Source.reads (source_of l.initial.reader).now) (g.K.Sink.writes l.initial.sink) (ledger_of g.B.Bay l.initial.bay) (g.S.Source.reads (source_of l.reader).now) (held l.reader) (lines_given l.reader) (g.K.Sink.writes l.sink) (ledger_of g.B.Bay l.bay)
      (λ o. IsOutlined o l.replay) (λ run. PlaysOn run l.replay);
  replay : IsReplay l.replay;
  few : length (actors_in l.replay) ≤ lines_given l.reader;
  out : out_of (g.B.Bay.past l.bay) ≡ out_of (g.B.Bay.past l.initial.bay) + devices_in l.replay;
  source : (source_of l.reader).ghost_name ≡ (source_of l.initial.reader).ghost_name;
  draws : Draws g.S.Source.reads g.S.Source.left (source_of l.initial.reader).now (source_of l.reader).now;
  failed : NoReadFailed (g.S.Source.reads (source_of l.initial.reader).now) (g.S.Source.reads (source_of l.reader).now);
  sink : Grows (g.K.Sink.writes l.initial.sink) (g.K.Sink.writes l.sink);
  order : KeepsOrder (returns_in l.initial.replay) (g.B.Bay.past l.initial.bay)
      (returns_in l.replay) (g.B.Bay.past l.bay);
  refusals : refusals_of (g.B.Bay.past l.bay) ≡ refusals_of (g.B.Bay.past l.initial.bay);
}

abbrev pub decreases-lines : goal.decreases-lines
decreases-lines g l = MAX_LINES - lines_given l.reader
