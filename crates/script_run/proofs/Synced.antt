-- What a stripe does of syncs writes out a buffer, or its records speak of syncs, faults and damage alone.
use Rattle.std.proofs.Common.{◌≡◌, ℕ, List, [], ◌∷◌, ◌++◌, sym, subst, inl, inr, ◌⊎◌, Bool, false}
use Rattle.std.specs.List.{AllByRecursion}
use Rattle.cache_model.specs.declared.record.Rec.{Rec}
use Rattle.cache_model.specs.declared.record.Rec.TheVariants as rec
use Rattle.cache_model.specs.State.{State, Row, cursor_next}
use Rattle.cache_model.specs.Permit.{Permit, End}
use Rattle.cache_model.specs.Due.{due_pieces}
use Rattle.cache_model.specs.Outcomes.{Copied, NoRoom, Outcome, ReadRefused, Spoiled, stopped_front_of, stopped_records_of}
use Rattle.cache_model.specs.Legal
use Rattle.cache_model.specs.Syncing
use Rattle.cache_model.specs.Syncing.{CannotEnd, DoesCleanSync, DoesSync, DoesSyncStep, MaySyncBehind, StopsBehind, Syncing, Unmarks, at_first, begun_record, ended_records, first_records, sync_records, unmark_records}
use Rattle.cache_model.proofs.Steps.{all_append, all_as}
use Rattle.cache_model.proofs.Syncing.{AreOfSyncs, IsOfSync, ended_of, first_of, sync_of, unmark_of}

-- the record speaks of a sync, or of a fault or damage that stops one
abbrev pub IsSyncing : Rec → Type 0
IsSyncing (rec.SyncBegun serial cursor clean in_parts) = Unit {0}
IsSyncing (rec.SyncDone serial) = Unit {0}
IsSyncing (rec.Damaged piece place kept found) = Unit {0}
IsSyncing (rec.Fault count) = Unit {0}
IsSyncing _ = ⊥

abbrev pub AllSyncing : List Rec → Type 0
AllSyncing recs = AllByRecursion IsSyncing recs

is_syncing : (added other : List Rec) → added ≡ other → AllSyncing other → AllSyncing added
is_syncing added other is h = subst AllSyncing (sym is) h

one_syncing : (r : Rec) → IsOfSync r → IsSyncing r
one_syncing (rec.SyncBegun serial cursor clean in_parts) h = tt
one_syncing (rec.SyncDone serial) h = tt
one_syncing _ h = absurd h

syncs : (recs : List Rec) → AreOfSyncs recs → AllSyncing recs
syncs recs h = all_as IsOfSync IsSyncing one_syncing recs h

-- ---- a flush that stops

stopped_one : (row : Row) (o : Outcome) → AllSyncing (stopped_records_of row o)
stopped_one row NoRoom = tt
stopped_one row (Copied bytes) = tt
stopped_one row (Spoiled found) = (tt, tt)
stopped_one row (ReadRefused count) = (tt, tt)

stopped_front : (rows : List Row) (outcomes : List Outcome) → AllSyncing (stopped_front_of rows outcomes)
stopped_front [] outcomes = tt
stopped_front (row ∷ rows) [] = tt
stopped_front (row ∷ rows) (o ∷ outcomes) =
    all_append IsSyncing (stopped_records_of row o) (stopped_front_of rows outcomes) (stopped_one row o) (stopped_front rows outcomes)

ended_then : (s : State) (recs : List Rec) → AllSyncing recs → AllSyncing (ended_records s ++ recs)
ended_then s recs h = all_append IsSyncing (ended_records s) recs (syncs (ended_records s) (ended_of s)) h

begun_syncing : (p : Permit) (k : Syncing) (s : State) (front : List Rec) (count : ℕ) (begun : List Rec) → StopsBehind p k s front count begun → AllSyncing begun
begun_syncing p k s front count begun (Syncing.StopsBehind.buffer c) = tt
begun_syncing p k s front count begun (Syncing.StopsBehind.ended t n r c) = tt
begun_syncing p k s front count begun (Syncing.StopsBehind.whole t n c) = ended_then s (begun_record s (cursor_next s) false false ∷ []) (tt, tt)

cannot_syncing : (p : Permit) (s : State) (count : ℕ) (added : List Rec) → CannotEnd p s count added → AllSyncing added
cannot_syncing p s count added c = is_syncing added _ c.is (tt, tt)

-- ---- each of them

-- a flush, a sync or the beginning of one
pub sync_parts : (p : Permit) (k : Syncing) (s : State) (added : List Rec) (e : End) → DoesSync p k s added e → MaySyncBehind p k s added ⊎ AllSyncing added
sync_parts p k s added e (Syncing.DoesSync.goes m) = inl m
sync_parts p k s added e (Syncing.DoesSync.stops count m) = inr (is_syncing added _ m.is
    (all_append IsSyncing (first_records k s) _ (syncs (first_records k s) (first_of k s))
    (all_append IsSyncing (stopped_front_of (due_pieces s p.now) m.outcomes) _ (stopped_front (due_pieces s p.now) m.outcomes)
    (all_append IsSyncing m.begun _ (begun_syncing p k (at_first k s) _ count m.begun m.stops) (tt, tt)))))
sync_parts p k s added e (Syncing.DoesSync.empty m) = inr (is_syncing added _ m.is (ended_then s _ (syncs (sync_records k s s.cursor) (sync_of k s s.cursor))))
sync_parts p k s added e (Syncing.DoesSync.empty_stops count m) = inr (is_syncing added _ m.is (ended_then s _ (tt, (tt, tt))))
sync_parts p k s added e (Syncing.DoesSync.stays count can first c) = inr (cannot_syncing p s count added c)
sync_parts p k s added e (Syncing.DoesSync.exhausted may high is) = inr (is_syncing added [] is tt)
sync_parts p k s added e (Syncing.DoesSync.runs serial on quiet parts runs is) = inr (is_syncing added [] is tt)

pub drain_parts : (p : Permit) (s : State) (added : List Rec) (e : End) → Legal.DoesDrain p s added e → MaySyncBehind p Syncing.AtOnce s added ⊎ AllSyncing added
drain_parts p s added e (Legal.DoesDrain.still_open on quiet some is) = inr (is_syncing added [] is tt)
drain_parts p s added e (Legal.DoesDrain.empty on quiet none filled is) = inr (is_syncing added _ is (syncs (ended_records s) (ended_of s)))
drain_parts p s added e (Legal.DoesDrain.stays count on quiet none filled c) = inr (cannot_syncing p s count added c)
drain_parts p s added e (Legal.DoesDrain.syncs none some d) = sync_parts p Syncing.AtOnce s added e d

-- a part of a sync, a clean one, and a mark that is taken back
pub step_syncing : (p : Permit) (s : State) (last : Bool) (added : List Rec) (e : End) → DoesSyncStep p s last added e → AllSyncing added
step_syncing p s last added e (Syncing.DoesSyncStep.none on quiet none is) = is_syncing added [] is tt
step_syncing p s last added e (Syncing.DoesSyncStep.part on quiet runs more is) = is_syncing added [] is tt
step_syncing p s last added e (Syncing.DoesSyncStep.ends on quiet runs end is) = is_syncing added _ is (syncs (ended_records s) (ended_of s))
step_syncing p s last added e (Syncing.DoesSyncStep.stays count on quiet c) = cannot_syncing p s count added c

pub clean_syncing : (p : Permit) (s : State) (added : List Rec) (e : End) → DoesCleanSync p s added e → AllSyncing added
clean_syncing p s added e (Syncing.DoesCleanSync.moving on quiet some is) = is_syncing added [] is tt
clean_syncing p s added e (Syncing.DoesCleanSync.runs serial on quiet none running is) = is_syncing added [] is tt
clean_syncing p s added e (Syncing.DoesCleanSync.syncs on quiet none rests below is) = is_syncing added _ is (tt, (tt, tt))
clean_syncing p s added e (Syncing.DoesCleanSync.stops count on quiet none rests below c is) = is_syncing added _ is (tt, (tt, tt))
clean_syncing p s added e (Syncing.DoesCleanSync.exhausted on quiet none rests high is) = is_syncing added [] is tt

pub unmark_syncing : (p : Permit) (s : State) (added : List Rec) (e : End) → Unmarks p s added e → AllSyncing added
unmark_syncing p s added e (Syncing.Unmarks.unmarks must below is) = is_syncing added _ is (syncs (unmark_records s) (unmark_of s))
unmark_syncing p s added e (Syncing.Unmarks.stays count must below c) = cannot_syncing p s count added c
unmark_syncing p s added e (Syncing.Unmarks.stops count must below marked c is) = is_syncing added _ is (ended_then s _ (tt, (tt, tt)))
unmark_syncing p s added e (Syncing.Unmarks.exhausted must high is) = is_syncing added [] is tt
