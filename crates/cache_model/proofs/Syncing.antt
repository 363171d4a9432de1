-- Syncs within a step change what is known of syncs and nothing else: a flush with syncs leaves what the flush alone
-- leaves, and all other records of syncs stand beside the pieces.
use Rattle.std.proofs.Common.{◌≡◌, ◌⊎◌, ℕ, List, [], ◌∷◌, ◌++◌, refl, sym, ◌∙◌, ap, subst, inl, inr, Bool, true, false}
use Rattle.std.specs.Prelude.{Option, Some, None, option_map, option_to_list, if◌then◌else◌}
use Rattle.std.specs.List.{AllByRecursion}
use Rattle.cache_model.specs.declared.record.Rec.{Rec}
use Rattle.cache_model.specs.declared.record.Rec.TheVariants as rec
use Rattle.cache_model.specs.State.{State, Row, after_all, cursor_next, state_after}
use Rattle.cache_model.specs.Permit.{Permit, End}
use Rattle.cache_model.specs.Due.{due_pieces}
use Rattle.cache_model.specs.Outcomes.{Copied, Copy, NoRoom, Outcome, ReadRefused, Spoiled, began_record, copies_of, flush_records, flush_tail, front_of, moved_record, moved_records, records_of, stopped_front_of}
use Rattle.cache_model.specs.Syncing
use Rattle.cache_model.specs.Syncing.{CannotEnd, DoesCleanSync, DoesSync, DoesSyncStep, MaySyncBehind, StopsBehind, Syncing, Unmarks, at_first, behind_records, begun_record, ended_records, ends_first, first_records, is_in_parts, needs_sync, needs_whole, next_serial, once_ended, sync_records, unmark_records}
use Rattle.cache_model.specs.Legal
use Rattle.cache_model.proofs.Aside.{AllAside, IsAside, aside_leaves, one_aside}
use Rattle.cache_model.proofs.Sound.{IsLater, later_leaves}
use Rattle.cache_model.proofs.SoundFlush.{flush_is_later, stopped_front_aside}
use Rattle.cache_model.proofs.Steps.{after_all-append, all_append}
use Rattle.cache_model.specs.Tape.{IsSound}

-- ---- what a record makes of syncs

-- a state with what another one knows of syncs
abbrev pub resynced : State → State → State
resynced u s = record s { marks = u.marks; finished = u.finished; running = u.running; marked = u.marked }

-- the record begins no session and speaks of no sync
abbrev pub LeavesSyncs : Rec → Type 0
LeavesSyncs (rec.Formatted geometry) = ⊥
LeavesSyncs (rec.Opened geometry serial cursor floor next_put clean list) = ⊥
LeavesSyncs (rec.SyncBegun serial cursor clean in_parts) = ⊥
LeavesSyncs (rec.SyncDone serial) = ⊥
LeavesSyncs _ = Unit {0}

abbrev pub AllLeaveSyncs : List Rec → Type 0
AllLeaveSyncs recs = AllByRecursion LeavesSyncs recs

-- it speaks of a sync
abbrev pub IsOfSync : Rec → Type 0
IsOfSync (rec.SyncBegun serial cursor clean in_parts) = Unit {0}
IsOfSync (rec.SyncDone serial) = Unit {0}
IsOfSync _ = ⊥

abbrev pub AreOfSyncs : List Rec → Type 0
AreOfSyncs recs = AllByRecursion IsOfSync recs

pub one_resynced : (u s : State) (r : Rec) → LeavesSyncs r → state_after (resynced u s) r ≡ resynced u (state_after s r)
one_resynced u s (rec.Formatted geometry) h = absurd h
one_resynced u s (rec.Opened geometry serial cursor floor next_put clean list) h = absurd h
one_resynced u s (rec.SyncBegun serial cursor clean in_parts) h = absurd h
one_resynced u s (rec.SyncDone serial) h = absurd h
one_resynced u s _ h = refl

pub all_resynced : (u s : State) (recs : List Rec) → AllLeaveSyncs recs → after_all (resynced u s) recs ≡ resynced u (after_all s recs)
all_resynced u s [] h = refl
all_resynced u s (r ∷ recs) h = ap (λ t. after_all t recs) (one_resynced u s r h.0) ∙ all_resynced u (state_after s r) recs h.1

after_sync : (s : State) (r : Rec) → IsOfSync r → state_after s r ≡ resynced (state_after s r) s
after_sync s (rec.SyncBegun serial cursor clean in_parts) h = refl
after_sync s (rec.SyncDone serial) h = refl
after_sync s _ h = absurd h

pub after_syncs : (s : State) (recs : List Rec) → AreOfSyncs recs → after_all s recs ≡ resynced (after_all s recs) s
after_syncs s [] h = refl
after_syncs s (r ∷ recs) h = after_syncs (state_after s r) recs h.1 ∙ ap (resynced (after_all (state_after s r) recs)) (after_sync s r h.0)

-- records of syncs among others leave what the others leave, but for what is known of syncs
pub among_syncs : (s : State) (first front behind tail : List Rec) → AreOfSyncs first → AllLeaveSyncs front → AreOfSyncs behind → AllLeaveSyncs tail
    → (u : State) × (after_all s (first ++ (front ++ (behind ++ tail))) ≡ resynced u (after_all s (front ++ tail)))
among_syncs s first front behind tail of_first leave_front of_behind leave_tail =
    let f : State = after_all s first in
    let m : State = after_all s front in
    let g : State = after_all (resynced f m) behind in
    let to_first : after_all s (first ++ (front ++ (behind ++ tail))) ≡ after_all (resynced f s) (front ++ (behind ++ tail)) =
    after_all-append s first (front ++ (behind ++ tail)) ∙ ap (λ t. after_all t (front ++ (behind ++ tail))) (after_syncs s first of_first) in
    let to_front : after_all (resynced f s) (front ++ (behind ++ tail)) ≡ after_all (resynced f m) (behind ++ tail) =
    after_all-append (resynced f s) front (behind ++ tail) ∙ ap (λ t. after_all t (behind ++ tail)) (all_resynced f s front leave_front) in
    let to_behind : after_all (resynced f m) (behind ++ tail) ≡ after_all (resynced g m) tail =
    after_all-append (resynced f m) behind tail ∙ ap (λ t. after_all t tail) (after_syncs (resynced f m) behind of_behind) in
    let to_tail : after_all (resynced g m) tail ≡ resynced g (after_all s (front ++ tail)) =
    all_resynced g m tail leave_tail ∙ ap (resynced g) (sym (after_all-append s front tail)) in
    (g, to_first ∙ (to_front ∙ (to_behind ∙ to_tail)))

-- ---- the lists of syncs

done_of : (r : Option ℕ) → AreOfSyncs (option_to_list (option_map rec.SyncDone r))
done_of None = tt
done_of (Some serial) = (tt, tt)

pub ended_of : (s : State) → AreOfSyncs (ended_records s)
ended_of s = done_of s.running

where_of : (b : Bool) (recs : List Rec) → AreOfSyncs recs → AreOfSyncs (if b then recs else [])
where_of true recs h = h
where_of false recs h = tt

pub first_of : (k : Syncing) (s : State) → AreOfSyncs (first_records k s)
first_of k s = where_of (ends_first k s) (ended_records s) (ended_of s)

parts_of : (b : Bool) (serial : ℕ) → AreOfSyncs (if b then [] else rec.SyncDone serial ∷ [])
parts_of true serial = tt
parts_of false serial = (tt, tt)

pub sync_of : (k : Syncing) (s : State) (cursor : ℕ) → AreOfSyncs (sync_records k s cursor)
sync_of k s cursor = (tt, parts_of (is_in_parts k) (next_serial s))

pub behind_of : (k : Syncing) (s : State) → AreOfSyncs (behind_records k s)
behind_of k s =
    all_append IsOfSync (if needs_sync k s then ended_records s else []) (if needs_whole k s then sync_records k s (cursor_next s) else [])
    (where_of (needs_sync k s) (ended_records s) (ended_of s))
    (where_of (needs_whole k s) (sync_records k s (cursor_next s)) (sync_of k s (cursor_next s)))

pub unmark_of : (s : State) → AreOfSyncs (unmark_records s)
unmark_of s =
    all_append IsOfSync (ended_records s) (if (once_ended s).marked then sync_records Syncing.AtOnce s s.cursor else []) (ended_of s)
    (where_of (once_ended s).marked (sync_records Syncing.AtOnce s s.cursor) (sync_of Syncing.AtOnce s s.cursor))

-- they stand beside the pieces
sync_aside : (r : Rec) → IsOfSync r → IsAside r
sync_aside (rec.SyncBegun serial cursor clean in_parts) h = (tt, tt)
sync_aside (rec.SyncDone serial) h = (tt, tt)
sync_aside _ h = absurd h

pub syncs_aside : (recs : List Rec) → AreOfSyncs recs → AllAside recs
syncs_aside [] h = tt
syncs_aside (r ∷ recs) h = (sync_aside r h.0, syncs_aside recs h.1)

-- ---- the flush among them

front_of_one : (row : Row) (o : Outcome) → AllLeaveSyncs (records_of row o)
front_of_one row NoRoom = (tt, tt)
front_of_one row (Copied bytes) = tt
front_of_one row (Spoiled found) = (tt, tt)
front_of_one row (ReadRefused count) = (tt, (tt, tt))

pub front_leaves_syncs : (rows : List Row) (outcomes : List Outcome) → AllLeaveSyncs (front_of rows outcomes)
front_leaves_syncs [] outcomes = tt
front_leaves_syncs (row ∷ rows) [] = tt
front_leaves_syncs (row ∷ rows) (o ∷ outcomes) = all_append LeavesSyncs (records_of row o) (front_of rows outcomes) (front_of_one row o) (front_leaves_syncs rows outcomes)

pub moved_leave_syncs : (s : State) (copies : List Copy) → AllLeaveSyncs (moved_records s copies)
moved_leave_syncs s [] = tt
moved_leave_syncs s (c ∷ copies) = (tt, moved_leave_syncs (state_after s (moved_record s c)) copies)

pub tail_leaves_syncs : (s : State) (rows : List Row) (outcomes : List Outcome) → AllLeaveSyncs (flush_tail s rows outcomes)
tail_leaves_syncs s rows outcomes = (tt, moved_leave_syncs (state_after (after_all s (front_of rows outcomes)) (began_record s)) (copies_of rows outcomes))

-- a flush with syncs leaves what it leaves alone, but for what is known of syncs
pub flush_among_syncs : (p : Permit) (k : Syncing) (s : State) (added : List Rec) (m : MaySyncBehind p k s added)
    → (u : State) × (after_all s added ≡ resynced u (after_all s (flush_records s (due_pieces s p.now) m.outcomes)))
flush_among_syncs p k s added m =
    let rows : List Row = due_pieces s p.now in
    let all = among_syncs s (first_records k s) (front_of rows m.outcomes) (behind_records k (at_first k s)) (flush_tail s rows m.outcomes)
    (first_of k s) (front_leaves_syncs rows m.outcomes) (behind_of k (at_first k s)) (tail_leaves_syncs s rows m.outcomes) in
    (all.0, ap (after_all s) m.is ∙ all.1)

-- ---- what is no flush stands beside the pieces

begun_aside : (p : Permit) (k : Syncing) (s : State) (front : List Rec) (count : ℕ) (begun : List Rec) → StopsBehind p k s front count begun → AllAside begun
begun_aside p k s front count begun (Syncing.StopsBehind.buffer c) = tt
begun_aside p k s front count begun (Syncing.StopsBehind.ended t n r c) = tt
begun_aside p k s front count begun (Syncing.StopsBehind.whole t n c) =
    all_append IsAside (ended_records s) (begun_record s (cursor_next s) false false ∷ []) (syncs_aside (ended_records s) (ended_of s)) ((tt, tt), tt)

cannot_aside : (p : Permit) (s : State) (count : ℕ) (added : List Rec) → CannotEnd p s count added → AllAside added
cannot_aside p s count added c = subst AllAside (sym c.is) one_aside

is_aside : (added other : List Rec) → added ≡ other → AllAside other → AllAside added
is_aside added other is h = subst AllAside (sym is) h

stopped_at : (s : State) (cursor : ℕ) (clean : Bool) (count : ℕ) → AllAside (begun_record s cursor clean false ∷ rec.Fault count ∷ [])
stopped_at s cursor clean count = ((tt, tt), one_aside)

ended_then : (s : State) (recs : List Rec) → AllAside recs → AllAside (ended_records s ++ recs)
ended_then s recs h = all_append IsAside (ended_records s) recs (syncs_aside (ended_records s) (ended_of s)) h

-- a flush, a sync or the beginning of one writes the buffer out, or stands beside the pieces
pub sync_splits : (p : Permit) (k : Syncing) (s : State) (added : List Rec) (e : End) → DoesSync p k s added e → MaySyncBehind p k s added ⊎ AllAside added
sync_splits p k s added e (Syncing.DoesSync.goes m) = inl m
sync_splits p k s added e (Syncing.DoesSync.stops count m) = inr (is_aside added _ m.is
    (all_append IsAside (first_records k s) _ (syncs_aside (first_records k s) (first_of k s))
    (all_append IsAside (stopped_front_of (due_pieces s p.now) m.outcomes) _ (stopped_front_aside (due_pieces s p.now) m.outcomes)
    (all_append IsAside m.begun (rec.Fault count ∷ []) (begun_aside p k (at_first k s) _ count m.begun m.stops) one_aside))))
sync_splits p k s added e (Syncing.DoesSync.empty m) = inr (is_aside added _ m.is (ended_then s (sync_records k s s.cursor) (syncs_aside (sync_records k s s.cursor) (sync_of k s s.cursor))))
sync_splits p k s added e (Syncing.DoesSync.empty_stops count m) = inr (is_aside added _ m.is (ended_then s _ (stopped_at s s.cursor false count)))
sync_splits p k s added e (Syncing.DoesSync.stays count can first c) = inr (cannot_aside p s count added c)
sync_splits p k s added e (Syncing.DoesSync.exhausted may high is) = inr (is_aside added [] is tt)
sync_splits p k s added e (Syncing.DoesSync.runs serial on quiet parts runs is) = inr (is_aside added [] is tt)

pub step_aside : (p : Permit) (s : State) (last : Bool) (added : List Rec) (e : End) → DoesSyncStep p s last added e → AllAside added
step_aside p s last added e (Syncing.DoesSyncStep.none on quiet none is) = is_aside added [] is tt
step_aside p s last added e (Syncing.DoesSyncStep.part on quiet runs front is) = is_aside added [] is tt
step_aside p s last added e (Syncing.DoesSyncStep.ends on quiet runs end is) = is_aside added (ended_records s) is (syncs_aside (ended_records s) (ended_of s))
step_aside p s last added e (Syncing.DoesSyncStep.stays count on quiet c) = cannot_aside p s count added c

pub clean_aside : (p : Permit) (s : State) (added : List Rec) (e : End) → DoesCleanSync p s added e → AllAside added
clean_aside p s added e (Syncing.DoesCleanSync.moving on quiet some is) = is_aside added [] is tt
clean_aside p s added e (Syncing.DoesCleanSync.runs serial on quiet none running is) = is_aside added [] is tt
clean_aside p s added e (Syncing.DoesCleanSync.syncs on quiet none rests below is) = is_aside added _ is ((tt, tt), one_aside)
clean_aside p s added e (Syncing.DoesCleanSync.stops count on quiet none rests below c is) = is_aside added _ is (stopped_at s s.cursor true count)
clean_aside p s added e (Syncing.DoesCleanSync.exhausted on quiet none rests high is) = is_aside added [] is tt

pub unmark_aside : (p : Permit) (s : State) (added : List Rec) (e : End) → Unmarks p s added e → AllAside added
unmark_aside p s added e (Syncing.Unmarks.unmarks must below is) = is_aside added (unmark_records s) is (syncs_aside (unmark_records s) (unmark_of s))
unmark_aside p s added e (Syncing.Unmarks.stays count must below c) = cannot_aside p s count added c
unmark_aside p s added e (Syncing.Unmarks.stops count must below marked c is) = is_aside added _ is (ended_then s _ (stopped_at s s.cursor false count))
unmark_aside p s added e (Syncing.Unmarks.exhausted must high is) = is_aside added [] is tt

pub drain_splits : (p : Permit) (s : State) (added : List Rec) (e : End) → Legal.DoesDrain p s added e → MaySyncBehind p Syncing.AtOnce s added ⊎ AllAside added
drain_splits p s added e (Legal.DoesDrain.still_open on quiet some is) = inr (is_aside added [] is tt)
drain_splits p s added e (Legal.DoesDrain.empty on quiet none filled is) = inr (is_aside added (ended_records s) is (syncs_aside (ended_records s) (ended_of s)))
drain_splits p s added e (Legal.DoesDrain.stays count on quiet none filled c) = inr (cannot_aside p s count added c)
drain_splits p s added e (Legal.DoesDrain.syncs none some d) = sync_splits p Syncing.AtOnce s added e d

-- ---- the tape

later_resynced : (u s t : State) → IsLater s t → IsLater s (resynced u t)
later_resynced u s t h = record {
  sound = record {
    from = h.sound.from;
    least = h.sound.least;
    lap = h.sound.lap;
    room = h.sound.room;
    rising = h.sound.rising;
    apart = h.sound.apart;
    known = h.sound.known;
  };
  geometry = h.geometry;
  floor = h.floor;
}

pub goes_is_later : (p : Permit) (k : Syncing) (s : State) (added : List Rec) → MaySyncBehind p k s added → IsSound s → IsLater s (after_all s added)
goes_is_later p k s added m h =
    let all = flush_among_syncs p k s added m in
    subst (IsLater s) (sym all.1) (later_resynced all.0 s _ (flush_is_later p s p.now m.outcomes h m.are).later)

-- a sound tape stays sound behind what is a flush among syncs, or stands beside the pieces
pub split_is_later : (p : Permit) (k : Syncing) (s : State) (added : List Rec) → MaySyncBehind p k s added ⊎ AllAside added → IsSound s → IsLater s (after_all s added)
split_is_later p k s added (inl m) h = goes_is_later p k s added m h
split_is_later p k s added (inr aside) h = later_leaves s added (aside_leaves added aside) h

-- ---- a stripe that does not sync

pub not_synced : {X : Type 0} (p : Permit) → p.syncs ≡ false → p.syncs ≡ true → X
not_synced p off on = let h : false ≡ true = sym off ∙ on in cc
