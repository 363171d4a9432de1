use Rattle.cache_calls.proofs.Faults.{added_faults}
use Rattle.cache_calls.proofs.laws.added_faults_were_refused.Goals as goal

pub returns : goal.returns
returns c = added_faults
