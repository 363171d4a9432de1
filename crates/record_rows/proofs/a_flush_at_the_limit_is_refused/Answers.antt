use Rattle.std.proofs.Common.{refl, lit<}
use Rattle.cache_model.specs.Legal
use Rattle.cache_model.specs.Legal.{more, nothing}
use Rattle.cache_model.specs.Permit.{Exhausted, Fails}
use Rattle.record_rows.proofs.a_flush_at_the_limit_is_refused.Goals as goal

pub returns : goal.returns
returns c = λ piece object. record {
  grows = more _ _ (Fails Exhausted, Legal.DoesFlush.exhausted refl (lit< tt) refl refl, refl) nothing;
  quiet = refl;
  faults = refl;
  effects = (λ off. refl);
}
