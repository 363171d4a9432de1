-- The jobs are those of the lines that were read, and each line is one nearer to the most that there may be.
use Rattle.std.proofs.Common.{◌≡◌, ◌-◌, vec_len}
use Rattle.edge_io.specs.declared.reader.TheConstants.{MAX_LINES}
use Rattle.edge_io.specs.Source.{Draws, NoReadFailed}
use Rattle.edge_io.specs.LineReader.{held, lines_given, source_of}
use Rattle.job_lines.specs.Reading.{AreAsked}
use Rattle.job_lines.proofs.reading.read_jobs.Given as goal

abbrev pub invariant-jobs : goal.invariant-jobs
invariant-jobs g l = record {
  asked : AreAsked l.workers (lines_given l.initial.reader) (held l.initial.reader) (g.S.Source.reads (source_of l.initial.reader).now) (g.S.Source.reads (source_of l.reader).now) (held l.reader) (lines_given l.reader) l.asked;
  width : vec_len l.asked.lanes ≡ l.workers;
  source : (source_of l.reader).ghost_name ≡ (source_of l.initial.reader).ghost_name;
  draws : Draws g.S.Source.reads g.S.Source.left (source_of l.initial.reader).now (source_of l.reader).now;
  failed : NoReadFailed (g.S.Source.reads (source_of l.initial.reader).now) (g.S.Source.reads (source_of l.reader).now);
}

abbrev pub decreases-jobs : goal.decreases-jobs
decreases-jobs g l = MAX_LINES - lines_given l.reader
