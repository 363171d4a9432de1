-- The lines of the turns so far went out.
use Rattle.std.proofs.Common.{drop}
use Rattle.edge_io.specs.Sink.{Grows}
use Rattle.work_script.specs.Turns.{turns_in}
use Rattle.work_script.proofs.Printing.{Printed}
use Rattle.work_script.proofs.turns.print_turns.Given as goal

abbrev pub invariant-loop-place : goal.invariant-loop-place
invariant-loop-place g l = record {
  printed : Printed (g.K.Sink.writes l.initial.sink) (g.K.Sink.writes l.sink) (turns_in l.rows) (turns_in (drop l.place l.rows)) l.place;
  grows : Grows (g.K.Sink.writes l.initial.sink) (g.K.Sink.writes l.sink);
}
