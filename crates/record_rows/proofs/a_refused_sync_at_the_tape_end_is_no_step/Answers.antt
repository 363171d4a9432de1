use Rattle.std.proofs.Common.{[], sym, arith}
use Rattle.std.specs.Prelude.{◌<◌}
use Rattle.cache_model.specs.Permit.{End, Sync}
use Rattle.cache_model.specs.Syncing
use Rattle.cache_model.specs.Syncing.{AtOnce, DoesSync}
use Rattle.cache_model.proofs.Found.{no_truth}
use Rattle.cache_model.proofs.Steps.{alone}
use Rattle.record_rows.specs.Steps.{at_tape_end, with_calls}
use Rattle.record_rows.proofs.Ends.{sync_ends}
use Rattle.record_rows.proofs.a_refused_sync_at_the_tape_end_is_no_step.Goals as goal

by_group : (e : End) → DoesSync (with_calls []) AtOnce at_tape_end [] e → ⊥
by_group e (Syncing.DoesSync.goes m) = let some : 0 < 0 = m.filled in absurd (omega (arith, some))
by_group e (Syncing.DoesSync.stops count m) = let some : 0 < 0 = m.filled in absurd (omega (arith, some))
by_group e (Syncing.DoesSync.empty m) = let made = m.is in cc
by_group e (Syncing.DoesSync.empty_stops count m) = m.counts.counts.refused
by_group e (Syncing.DoesSync.stays count can first c) = c.counts.counts.refused
by_group e (Syncing.DoesSync.exhausted may high is) = no_truth (sym high)
by_group e (Syncing.DoesSync.runs serial on quiet parts runs is) = no_truth (sym parts)

pub returns : goal.returns
returns c = λ step.
    let one = alone (with_calls []) at_tape_end Sync [] _ (λ added e d h. sync_ends d h) step.grows in
    by_group one.0 one.1
