use Rattle.run_laws.proofs.Fixed.{source_fixes_sink}
use Rattle.run_laws.proofs.laws.source_fixes_sink.Goals as goal

pub returns : goal.returns
returns c = source_fixes_sink c.runs_agree_before_trouble.ensures c.faultless_turns.ensures
