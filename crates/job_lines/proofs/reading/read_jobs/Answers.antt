use Rattle.std.proofs.Common.{refl, ◌∙◌}
use Rattle.edge_io.specs.LineReader.{held, lines_given, source_of}
use Rattle.edge_io.proofs.Draws.{draws_more, draws_nothing}
use Rattle.run_script.proofs.Ends.{failed_earlier}
use Rattle.job_lines.proofs.Read.{none_asked}
use Rattle.job_lines.proofs.reading.read_jobs.Goals as goal

pub returns-in_default-clause-draws : goal.returns-in_default-clause-draws
returns-in_default-clause-draws g c = draws_nothing g.S.Source.reads g.S.Source.left (source_of c.args.reader.now).now

pub jobs-init : goal.jobs-init
jobs-init g c = record {
  asked = none_asked c.args.workers (lines_given c.args.reader.now) (held c.args.reader.now) (g.S.Source.reads (source_of c.args.reader.now).now) c.in-Ok.asked c.requires.within c.in-Ok.ensures.blank c.in-Ok.ensures.first;
  width = c.in-Ok.ensures.width;
  source = refl;
  draws = draws_nothing g.S.Source.reads g.S.Source.left (source_of c.args.reader.now).now;
  failed = refl;
}

pub jobs-preserved : goal.jobs-preserved
jobs-preserved g c =
    let before = c.jobs.invariant in
    record {
      asked = c.in-Ok-true.ensures.goes _ _ _ before.asked;
      width = c.read_job.ensures.width ∙ before.width;
      source = c.read_job.ensures.source ∙ before.source;
      draws = draws_more g.S.Source.reads g.S.Source.left _ _ _ before.draws c.read_job.ensures.draws;
      failed = c.in-Ok-true.ensures.reads ∙ before.failed;
    }

pub returns-in-Ok-false-clause-draws : goal.returns-in-Ok-false-clause-draws
returns-in-Ok-false-clause-draws g c = draws_more g.S.Source.reads g.S.Source.left _ _ _ c.jobs.invariant.draws c.read_job.ensures.draws

pub returns-in-Err-clause-draws : goal.returns-in-Err-clause-draws
returns-in-Err-clause-draws g c = draws_more g.S.Source.reads g.S.Source.left _ _ _ c.jobs.invariant.draws c.read_job.ensures.draws

pub returns-in-Err-clause-reads : goal.returns-in-Err-clause-reads
returns-in-Err-clause-reads g c = failed_earlier _ _ _ c.in-Err.ending c.jobs.invariant.failed c.in-Err.ensures.reads
