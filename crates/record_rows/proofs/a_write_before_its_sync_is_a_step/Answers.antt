use Rattle.std.proofs.Common.{[], refl, arith, lit<, lit≤}
use Rattle.cache_model.specs.Legal.{more, nothing}
use Rattle.cache_model.specs.Permit.{Done}
use Rattle.cache_model.specs.Syncing
use Rattle.record_rows.specs.Steps.{calls_of_sync}
use Rattle.record_rows.proofs.Blocks.{takes_it}
use Rattle.record_rows.proofs.a_write_before_its_sync_is_a_step.Goals as goal

pub returns : goal.returns
returns c = λ body block size whole. record {
  grows = more _ _ (
    Done,
    Syncing.DoesSync.goes (record {
      outcomes = [];
      can = record { may = record { syncs = refl; quiet = refl; free = (λ h. cc); some = (λ h. lit< tt) }; below = refl };
      filled = lit< tt;
      takes = takes_it _ block whole (record { later = calls_of_sync body; is = refl });
      are = tt;
      is = refl;
    }),
    refl,
  ) nothing;
  quiet = refl;
  faults = refl;
  effects = λ off. cc;
}
