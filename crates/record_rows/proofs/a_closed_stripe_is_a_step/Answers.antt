use Rattle.std.proofs.Common.{[], refl, arith}
use Rattle.cache_model.specs.Legal.{more, nothing}
use Rattle.cache_model.specs.Permit.{Done}
use Rattle.cache_model.specs.Syncing
use Rattle.cache_model.specs.Legal
use Rattle.record_rows.proofs.a_closed_stripe_is_a_step.Goals as goal

pub returns : goal.returns
returns c = λ body size. record {
  grows = more [] _ (Done, Legal.DoesDrain.empty refl refl refl refl refl, refl)
      (more _ _ (Done, Syncing.DoesCleanSync.syncs refl refl refl refl (omega arith) refl, refl) nothing);
  quiet = refl;
  faults = refl;
  effects = λ off. cc;
}
