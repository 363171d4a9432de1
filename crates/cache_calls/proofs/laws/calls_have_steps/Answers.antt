use Rattle.call_laws.proofs.Whole.{encloses_own}
use Rattle.cache_calls.proofs.laws.calls_have_steps.Goals as goal

pub returns : goal.returns
returns c = encloses_own
