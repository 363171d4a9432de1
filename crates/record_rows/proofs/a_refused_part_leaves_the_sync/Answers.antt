use Rattle.std.proofs.Common.{[], refl, inl, lit≤}
use Rattle.cache_model.specs.Legal.{more, nothing}
use Rattle.cache_model.specs.Permit.{Fails, Faulted, SyncRuns}
use Rattle.cache_model.specs.Syncing
use Rattle.cache_model.specs.Given
use Rattle.record_rows.proofs.a_refused_part_leaves_the_sync.Goals as goal

pub returns : goal.returns
returns c = (
  (λ left. record {
    grows = more _ _ (Fails (Faulted 1), Syncing.DoesSyncStep.stays 1 refl refl (record { runs = refl; counts = record { asked = _; changes = refl; counts = record { rose = lit≤ tt; refused = inl refl } }; is = refl }), refl) nothing;
    quiet = refl;
    faults = refl;
    effects = λ off. cc;
  }),
  record {
    grows = more [] _ (Fails (SyncRuns 5), Syncing.DoesSync.runs 5 refl refl refl refl refl, refl) nothing;
    quiet = refl;
    faults = refl;
    effects = λ off. cc;
  },
)
