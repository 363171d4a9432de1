use Rattle.std.proofs.Common.{refl, arith}
use Rattle.cache_model.specs.Legal.{more, nothing}
use Rattle.cache_model.specs.Permit.{Done}
use Rattle.cache_model.specs.Syncing
use Rattle.record_rows.proofs.an_empty_sync_at_the_tape_end_is_a_step.Goals as goal

pub returns : goal.returns
returns c = λ body size. record {
  grows = more _ _ (
    Done,
    Syncing.DoesSync.empty (record {
      can = record { may = record { syncs = refl; quiet = refl; free = λ h. cc; some = λ h. cc }; below = refl };
      asked = refl;
      empty = refl;
      is = refl;
    }),
    refl,
  ) nothing;
  quiet = refl;
  faults = refl;
  effects = λ off. cc;
}
