use Rattle.cause_laws.proofs.Verdicts.{misses_are_caused}
use Rattle.cause_laws.proofs.laws.misses_are_caused.Goals as goal

pub returns : goal.returns
returns c = misses_are_caused c.vectors_are_on_record.ensures c.runs_are_counted.ensures
