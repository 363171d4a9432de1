use Rattle.std.proofs.Common.{ℕ, ◌-◌, List, sym}
use Rattle.std.specs.Prelude.{◌^◌}
use Rattle.tape_base.specs.declared.digests.Digest.{Digest}
use Rattle.device_log.specs.Calls.{Call}
use Rattle.cache_model.specs.declared.record.Rec.{Rec}
use Rattle.cache_model.specs.Legal
use Rattle.cache_model.specs.Legal.{DoesFlush}
use Rattle.cache_model.specs.Permit.{End, Flush}
use Rattle.cache_model.specs.State.{State}
use Rattle.cache_model.specs.Syncing
use Rattle.cache_model.specs.Syncing.{DoesSync, WhereDue}
use Rattle.cache_model.proofs.Found.{no_truth}
use Rattle.cache_model.proofs.Steps.{alone}
use Rattle.record_rows.specs.Limit.{before_flush, copied_from, unsynced}
use Rattle.record_rows.proofs.Ends.{flush_ends}
use Rattle.record_rows.proofs.a_copy_above_the_limit_is_no_step.Goals as goal

not_synced : {calls : List Call} {s : State} {added : List Rec} {e : End} → DoesSync (unsynced calls) WhereDue s added e → ⊥
not_synced (Syncing.DoesSync.goes m) = no_truth (sym m.can.may.syncs)
not_synced (Syncing.DoesSync.stops count m) = no_truth (sym m.can.may.syncs)
not_synced (Syncing.DoesSync.empty m) = no_truth (sym m.can.may.syncs)
not_synced (Syncing.DoesSync.empty_stops count m) = no_truth (sym m.can.may.syncs)
not_synced (Syncing.DoesSync.stays count can first c) = no_truth (sym can.may.syncs)
not_synced (Syncing.DoesSync.exhausted may high is) = no_truth (sym may.syncs)
not_synced (Syncing.DoesSync.runs serial on quiet parts runs is) = no_truth (sym on)

-- the half of the next buffer that takes copies does not end below the limit: `CanFlush.below`
not_flushed : (piece object : Digest) (bytes : List ℕ) (calls : List Call) (e : End)
    → DoesFlush (unsynced calls) (before_flush (2 ^ 62 - 4) piece object) (copied_from (2 ^ 62 - 4) bytes) e → ⊥
not_flushed piece object bytes calls e (Legal.DoesFlush.empty quiet none is) = cc
not_flushed piece object bytes calls e (Legal.DoesFlush.flushes m) = no_truth m.can.below
not_flushed piece object bytes calls e (Legal.DoesFlush.stops count m) = no_truth m.can.below
not_flushed piece object bytes calls e (Legal.DoesFlush.exhausted quiet some high is) = cc
not_flushed piece object bytes calls e (Legal.DoesFlush.syncs d) = not_synced d

pub returns : goal.returns
returns c = λ piece object bytes calls step.
    let one = alone (unsynced calls) (before_flush (2 ^ 62 - 4) piece object) Flush (copied_from (2 ^ 62 - 4) bytes) _ flush_ends step.grows in
    not_flushed piece object bytes calls one.0 one.1
