use Rattle.cache_calls.proofs.Keeping.{goes_still, goes_then, keeps_still, keeps_then}
use Rattle.cache_calls.proofs.laws.calls_keep.Goals as goal

pub returns : goal.returns
returns g c = record {
  goes = (goes_still, λ a b c first next. goes_then first next);
  keeps = (keeps_still, λ a b c first next. keeps_then first next);
}
