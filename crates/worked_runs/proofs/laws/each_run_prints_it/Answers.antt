use Rattle.worked_runs.proofs.Sentences.{each_run_prints}
use Rattle.worked_runs.proofs.laws.each_run_prints_it.Goals as goal

pub returns : goal.returns
returns c = each_run_prints c.source_fixes_sink.ensures c.the_script_is_concluded.ensures c.the_run_is_steady.ensures.0
