use Rattle.std.proofs.Common.{refl, arith}
use Rattle.cache_model.specs.Legal.{more, nothing}
use Rattle.cache_model.specs.Permit.{Done}
use Rattle.cache_model.specs.Syncing
use Rattle.record_rows.proofs.a_last_part_is_a_step.Goals as goal

pub returns : goal.returns
returns c = λ body size. record {
  grows = more _ _ (Done, Syncing.DoesSyncStep.ends refl refl refl refl refl, refl) nothing;
  quiet = refl;
  faults = refl;
  effects = λ off. cc;
}
