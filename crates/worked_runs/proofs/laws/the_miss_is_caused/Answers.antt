use Rattle.worked_runs.proofs.Sentences.{miss_is_caused}
use Rattle.worked_runs.proofs.laws.the_miss_is_caused.Goals as goal

pub returns : goal.returns
returns c = miss_is_caused c.misses_are_caused.ensures c.the_script_is_answered.ensures
