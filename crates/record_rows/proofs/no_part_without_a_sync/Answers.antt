use Rattle.std.proofs.Common.{[], refl, lit≤}
use Rattle.cache_model.specs.Legal.{more, nothing}
use Rattle.cache_model.specs.Permit.{Fails, NoSync}
use Rattle.cache_model.specs.Syncing
use Rattle.record_rows.proofs.no_part_without_a_sync.Goals as goal

pub returns : goal.returns
returns c = record {
  grows = more [] _ (Fails NoSync, Syncing.DoesSyncStep.none refl refl refl refl, refl) nothing;
  quiet = refl;
  faults = refl;
  effects = λ off. cc;
}
