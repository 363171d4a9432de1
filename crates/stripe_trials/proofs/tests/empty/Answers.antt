use Rattle.std.proofs.Common.{refl, sym, subst}
use Rattle.cache_model.specs.Kept.{state_of}
use Rattle.cache_model.specs.Legal.{IsQuiet}
use Rattle.stripe_trials.proofs.tests.empty.Goals as goal

pub returns-in-Ok-format : goal.returns-in-Ok-format
returns-in-Ok-format c = record {
  stripe = c.in-Ok-format.ensures.formatted.stripe;
  quiet = subst (λ k. IsQuiet (state_of k)) (sym c.in-Ok-format.ensures.formatted.records) refl;
}
