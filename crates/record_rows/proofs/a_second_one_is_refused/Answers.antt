use Rattle.std.proofs.Common.{[], refl, lit≤}
use Rattle.cache_model.specs.Legal.{more, nothing}
use Rattle.cache_model.specs.Permit.{Fails, SyncRuns}
use Rattle.cache_model.specs.Syncing
use Rattle.record_rows.proofs.a_second_one_is_refused.Goals as goal

pub returns : goal.returns
returns c = record {
  grows = more [] _ (Fails (SyncRuns 2), Syncing.DoesSync.runs 2 refl refl refl refl refl, refl) nothing;
  quiet = refl;
  faults = refl;
  effects = λ off. cc;
}
