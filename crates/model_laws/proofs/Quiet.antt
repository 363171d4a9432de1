-- Each group of records but a commit begins where no vector is pending.
use Rattle.std.proofs.Common.{Bool, inl, inr, ◌⊎◌}
use Rattle.std.specs.Prelude.{ℕ, List}
use Rattle.cache_model.specs.declared.record.Rec.{Rec}
use Rattle.cache_model.specs.State.{State}
use Rattle.cache_model.specs.Permit.{Permit, Intent, Flush, Sync, SyncBegin, SyncStep, Drain, CleanSync, Write, Fragment, Overflow, Weigh, Finish, Commit, GiveUp, Remove, Look, ReadOn, ReadAll, StopReading, End}
use Rattle.cache_model.specs.Syncing
use Rattle.cache_model.specs.Syncing.{DoesCleanSync, DoesSync, DoesSyncStep, Syncing}
use Rattle.cache_model.specs.Legal
use Rattle.cache_model.specs.Legal.{Does, IsQuiet}

sync_quiet : (p : Permit) (k : Syncing) (s : State) (added : List Rec) (e : End) → DoesSync p k s added e → IsQuiet s
sync_quiet p k s added e (Syncing.DoesSync.goes m) = m.can.may.quiet
sync_quiet p k s added e (Syncing.DoesSync.stops count m) = m.can.may.quiet
sync_quiet p k s added e (Syncing.DoesSync.empty m) = m.can.may.quiet
sync_quiet p k s added e (Syncing.DoesSync.empty_stops count m) = m.can.may.quiet
sync_quiet p k s added e (Syncing.DoesSync.stays count can first c) = can.may.quiet
sync_quiet p k s added e (Syncing.DoesSync.exhausted may high is) = may.quiet
sync_quiet p k s added e (Syncing.DoesSync.runs serial on quiet parts runs is) = quiet

step_quiet : (p : Permit) (s : State) (last : Bool) (added : List Rec) (e : End) → DoesSyncStep p s last added e → IsQuiet s
step_quiet p s last added e (Syncing.DoesSyncStep.none on quiet none is) = quiet
step_quiet p s last added e (Syncing.DoesSyncStep.part on quiet runs more is) = quiet
step_quiet p s last added e (Syncing.DoesSyncStep.ends on quiet runs end is) = quiet
step_quiet p s last added e (Syncing.DoesSyncStep.stays count on quiet c) = quiet

clean_quiet : (p : Permit) (s : State) (added : List Rec) (e : End) → DoesCleanSync p s added e → IsQuiet s
clean_quiet p s added e (Syncing.DoesCleanSync.moving on quiet some is) = quiet
clean_quiet p s added e (Syncing.DoesCleanSync.runs serial on quiet none running is) = quiet
clean_quiet p s added e (Syncing.DoesCleanSync.syncs on quiet none rests below is) = quiet
clean_quiet p s added e (Syncing.DoesCleanSync.stops count on quiet none rests below c is) = quiet
clean_quiet p s added e (Syncing.DoesCleanSync.exhausted on quiet none rests high is) = quiet

flush_quiet : (p : Permit) (s : State) (added : List Rec) (e : End) → Legal.DoesFlush p s added e → IsQuiet s
flush_quiet p s added e (Legal.DoesFlush.empty q f is) = q
flush_quiet p s added e (Legal.DoesFlush.flushes m) = m.can.quiet
flush_quiet p s added e (Legal.DoesFlush.stops count m) = m.can.quiet
flush_quiet p s added e (Legal.DoesFlush.exhausted q f b is) = q
flush_quiet p s added e (Legal.DoesFlush.syncs d) = sync_quiet p _ s added e d

drain_quiet : (p : Permit) (s : State) (added : List Rec) (e : End) → Legal.DoesDrain p s added e → IsQuiet s
drain_quiet p s added e (Legal.DoesDrain.still_open on quiet some is) = quiet
drain_quiet p s added e (Legal.DoesDrain.empty on quiet none filled is) = quiet
drain_quiet p s added e (Legal.DoesDrain.stays count on quiet none filled c) = quiet
drain_quiet p s added e (Legal.DoesDrain.syncs none some d) = sync_quiet p _ s added e d

-- no vector is pending, or the group commits one
pub quiet_or_commits : (p : Permit) (s : State) (i : Intent) (added : List Rec) (e : End) → Does p s i added e → IsQuiet s ⊎ ((put : ℕ) × Legal.DoesCommit s put added e)
quiet_or_commits p s (Commit put) added e d = inr (put, d)
quiet_or_commits p s Flush added e d = inl (flush_quiet p s added e d)
quiet_or_commits p s Sync added e d = inl (sync_quiet p _ s added e d)
quiet_or_commits p s SyncBegin added e d = inl (sync_quiet p _ s added e d)
quiet_or_commits p s (SyncStep last) added e d = inl (step_quiet p s last added e d)
quiet_or_commits p s Drain added e d = inl (drain_quiet p s added e d)
quiet_or_commits p s CleanSync added e d = inl (clean_quiet p s added e d)
quiet_or_commits p s (Write actor key request response pin) added e (Legal.DoesWrite.opens m) = inl m.quiet
quiet_or_commits p s (Write actor key request response pin) added e (Legal.DoesWrite.many q m is) = inl q
quiet_or_commits p s (Write actor key request response pin) added e (Legal.DoesWrite.exhausted q m l is) = inl q
quiet_or_commits p s (Fragment put index payload) added e (Legal.DoesFragment.unmarks w n q u) = inl n.writing.quiet
quiet_or_commits p s (Fragment put index payload) added e (Legal.DoesFragment.places d m) = inl m.cut.writing.quiet
quiet_or_commits p s (Fragment put index payload) added e (Legal.DoesFragment.rooms w n m) = inl n.writing.quiet
quiet_or_commits p s (Fragment put index payload) added e (Legal.DoesFragment.exhausted w x n q) = inl n.writing.quiet
quiet_or_commits p s (Overflow put) added e (Legal.DoesOverflow.aborts w q l is) = inl q.quiet
quiet_or_commits p s (Weigh put rest) added e (Legal.DoesWeigh.weighs w q r f is) = inl q.quiet
quiet_or_commits p s (Weigh put rest) added e (Legal.DoesWeigh.too_large w q r f is) = inl q.quiet
quiet_or_commits p s (Weigh put rest) added e (Legal.DoesWeigh.damaged w row found q live d is) = inl q.quiet
quiet_or_commits p s (Weigh put rest) added e (Legal.DoesWeigh.faulted w row count q live r m is) = inl q.quiet
quiet_or_commits p s (Finish put fragments) added e (Legal.DoesFinish.unmarks w c l q u) = inl c.writing.quiet
quiet_or_commits p s (Finish put fragments) added e (Legal.DoesFinish.places d m) = inl m.cut.writing.quiet
quiet_or_commits p s (Finish put fragments) added e (Legal.DoesFinish.rooms w c m) = inl c.writing.quiet
quiet_or_commits p s (Finish put fragments) added e (Legal.DoesFinish.loses w index d m is) = inl m.cut.writing.quiet
quiet_or_commits p s (Finish put fragments) added e (Legal.DoesFinish.exhausted w x c l q) = inl c.writing.quiet
quiet_or_commits p s (GiveUp put) added e (Legal.DoesGiveUp.aborts w q is) = inl q.quiet
quiet_or_commits p s (GiveUp put) added e (Legal.DoesGiveUp.over q o is) = inl q
quiet_or_commits p s (Remove key) added e (Legal.DoesRemove.removes row q l is) = inl q
quiet_or_commits p s (Remove key) added e (Legal.DoesRemove.absent q l is) = inl q
quiet_or_commits p s (Look actor key request) added e (Legal.DoesLook.looks m) = inl m.quiet
quiet_or_commits p s (ReadOn reader) added e (Legal.DoesReadOn.reads_on answer m) = inl m.quiet
quiet_or_commits p s (ReadAll reader) added e (Legal.DoesReadAll.reads_on answer x m y) = inl m.quiet
quiet_or_commits p s (ReadAll reader) added e (Legal.DoesReadAll.has_none q x is y) = inl q
quiet_or_commits p s (StopReading reader) added e (Legal.DoesStopReading.closes r q l is) = inl q
quiet_or_commits p s (StopReading reader) added e (Legal.DoesStopReading.closed q l is) = inl q
