-- Each sync of a group takes the next serial, so that the last sync of a session has the greatest.
use Rattle.std.proofs.Common.{◌≡◌, ℕ, ◌+◌, ◌<◌, ◌⊎◌, inl, inr, List, [], ◌∷◌, ◌++◌, append_assoc, refl, sym, ◌∙◌, ap, subst, arith, Bool, true, false}
use Rattle.std.specs.Prelude.{Option, if◌then◌else◌}
use Rattle.device_log.specs.Calls.{Call}
use Rattle.cache_model.specs.declared.record.Rec.{Rec}
use Rattle.cache_model.specs.declared.record.Rec.TheVariants as rec
use Rattle.cache_model.specs.State.{State, Mark, Row, after_all, cursor_next, nothing_yet, state_after, AllAlong}
use Rattle.cache_model.specs.Permit.{Setting, Permit, Intent, CleanSync, Reason, End, Work}
use Rattle.cache_model.specs.Due.{due_pieces}
use Rattle.cache_model.specs.Outcomes.{flush_tail, front_of, stopped_front_of}
use Rattle.cache_model.specs.Syncing
use Rattle.cache_model.specs.Syncing.{DoesCleanSync, DoesSync, MayStopSync, MaySyncBehind, StopsBehind, Syncing, Unmarks, at_first, behind_records, begun_record, ended_records, first_records, is_in_parts, needs_sync, needs_whole, next_serial, once_ended, sync_records, unmark_records}
use Rattle.cache_model.specs.Legal
use Rattle.cache_model.specs.Legal.{Advances, Course, Does, IsLegal, MayGrow, more, nothing}
use Rattle.cache_model.proofs.Steps.{after_all-append, all_append, all_as, along_append}
use Rattle.cache_model.proofs.Syncing.{LeavesSyncs, front_leaves_syncs, tail_leaves_syncs}
use Rattle.step_laws.specs.AskLaws.{IsHeadGreatest, IsNextSerial, way_of}
use Rattle.session_laws.proofs.Asks.{insert_leaves}
use Rattle.step_laws.proofs.Grouped
use Rattle.step_laws.proofs.Grouped.{Grouped, IsOfInsert, IsPlain, grouped, stopped_leaves_syncs}
use Rattle.session_laws.proofs.Marks.{AllLeaveMarks, LeavesMarks, ended_marks, ends_marks, first_marks, leave_marks, serial_left, where_marks}

-- ---- records in which at most one sync begins

-- it has this serial, and is clean or not
pub data BeginsOnce (n : ℕ) (clean : Bool) : List Rec → Type 0 where
  none : {recs : List Rec} → AllLeaveMarks recs → BeginsOnce n clean recs
  once : {recs : List Rec} (before : List Rec) (cursor : ℕ) (in_parts : Bool) (behind : List Rec) → AllLeaveMarks before → AllLeaveMarks behind
      → recs ≡ before ++ rec.SyncBegun n cursor clean in_parts ∷ behind → BeginsOnce n clean recs

-- more records in front
in_front : {clean : Bool} (n : ℕ) (front recs : List Rec) → AllLeaveMarks front → BeginsOnce n clean recs → BeginsOnce n clean (front ++ recs)
in_front n front recs h (none all) = none (all_append LeavesMarks front recs h all)
in_front {clean} n front recs h (once before cursor in_parts behind first last is) =
    once (front ++ before) cursor in_parts behind (all_append LeavesMarks front before h first) last
    (ap (λ xs. front ++ xs) is ∙ sym (append_assoc front before (rec.SyncBegun n cursor clean in_parts ∷ behind)))

-- or behind
in_back : {clean : Bool} (n : ℕ) (recs back : List Rec) → AllLeaveMarks back → BeginsOnce n clean recs → BeginsOnce n clean (recs ++ back)
in_back n recs back h (none all) = none (all_append LeavesMarks recs back all h)
in_back {clean} n recs back h (once before cursor in_parts behind first last is) =
    once before cursor in_parts (behind ++ back) first (all_append LeavesMarks behind back last h)
    (ap (λ xs. xs ++ back) is ∙ append_assoc before (rec.SyncBegun n cursor clean in_parts ∷ behind) back)

in_case : {clean : Bool} (n : ℕ) (b : Bool) (recs : List Rec) → BeginsOnce n clean recs → BeginsOnce n clean (if b then recs else [])
in_case n true recs h = h
in_case n false recs h = none tt

once_as : {clean : Bool} (n : ℕ) (added other : List Rec) → added ≡ other → BeginsOnce n clean other → BeginsOnce n clean added
once_as {clean} n added other is h = subst (BeginsOnce n clean) (sym is) h

-- ---- what a stripe that syncs records

done_marks : (b : Bool) (serial : ℕ) → AllLeaveMarks (if b then [] else rec.SyncDone serial ∷ [])
done_marks true serial = tt
done_marks false serial = (tt, tt)

sync_once : (k : Syncing) (s : State) (cursor : ℕ) → BeginsOnce (next_serial s) false (sync_records k s cursor)
sync_once k s cursor = once [] cursor (is_in_parts k) _ tt (done_marks (is_in_parts k) (next_serial s)) refl

-- a sync that the device stopped
stopped_once : (s : State) (cursor count : ℕ) (clean : Bool) → BeginsOnce (next_serial s) clean (begun_record s cursor clean false ∷ rec.Fault count ∷ [])
stopped_once s cursor count clean = once [] cursor false (rec.Fault count ∷ []) tt (tt, tt) refl

behind_once : (k : Syncing) (s : State) → BeginsOnce (next_serial s) false (behind_records k s)
behind_once k s =
    let ended : List Rec = if needs_sync k s then ended_records s else [] in
    let sync : List Rec = if needs_whole k s then sync_records k s (cursor_next s) else [] in
    in_front (next_serial s) ended sync (where_marks (needs_sync k s) (ended_records s) (ended_marks s))
    (in_case (next_serial s) (needs_whole k s) (sync_records k s (cursor_next s)) (sync_once k s (cursor_next s)))

-- behind the end of the sync in parts the next serial is that of before
at_first_once : (k : Syncing) (s : State) (recs : List Rec) → BeginsOnce (next_serial (at_first k s)) false recs → BeginsOnce (next_serial s) false recs
at_first_once k s recs h = subst (λ n. BeginsOnce n false recs) (serial_left s (first_records k s) (first_marks k s)) h

goes_once : (p : Permit) (k : Syncing) (s : State) (added : List Rec) → MaySyncBehind p k s added → BeginsOnce (next_serial s) false added
goes_once p k s added m =
    let rows : List Row = due_pieces s p.now in
    let n : ℕ = next_serial s in
    let front : List Rec = front_of rows m.outcomes in
    let behind : List Rec = behind_records k (at_first k s) in
    let tail : List Rec = flush_tail s rows m.outcomes in
    once_as n added _ m.is
    (in_front n (first_records k s) (front ++ (behind ++ tail)) (first_marks k s)
    (in_front n front (behind ++ tail) (leave_marks front (front_leaves_syncs rows m.outcomes))
    (in_back n behind tail (leave_marks tail (tail_leaves_syncs s rows m.outcomes)) (at_first_once k s behind (behind_once k (at_first k s))))))

begun_once : (p : Permit) (k : Syncing) (s : State) (front : List Rec) (count : ℕ) (begun : List Rec) → StopsBehind p k s front count begun → BeginsOnce (next_serial s) false begun
begun_once p k s front count begun (Syncing.StopsBehind.buffer c) = none tt
begun_once p k s front count begun (Syncing.StopsBehind.ended t n r c) = none tt
begun_once p k s front count begun (Syncing.StopsBehind.whole t n c) =
    in_front (next_serial s) (ended_records s) (begun_record s (cursor_next s) false false ∷ []) (ended_marks s) (once [] (cursor_next s) false [] tt tt refl)

stops_once : (p : Permit) (k : Syncing) (s : State) (count : ℕ) (added : List Rec) → MayStopSync p k s count added → BeginsOnce (next_serial s) false added
stops_once p k s count added m =
    let rows : List Row = due_pieces s p.now in
    let n : ℕ = next_serial s in
    let front : List Rec = stopped_front_of rows m.outcomes in
    let last : List Rec = rec.Fault count ∷ [] in
    once_as n added _ m.is
    (in_front n (first_records k s) (front ++ (m.begun ++ last)) (first_marks k s)
    (in_front n front (m.begun ++ last) (leave_marks front (stopped_leaves_syncs rows m.outcomes))
    (in_back n m.begun last (tt, tt) (at_first_once k s m.begun (begun_once p k (at_first k s) front count m.begun m.stops)))))

pub does_once : (p : Permit) (k : Syncing) (s : State) (added : List Rec) (f : End) → DoesSync p k s added f → BeginsOnce (next_serial s) false added
does_once p k s added f (Syncing.DoesSync.goes m) = goes_once p k s added m
does_once p k s added f (Syncing.DoesSync.stops count m) = stops_once p k s count added m
does_once p k s added f (Syncing.DoesSync.empty m) =
    once_as (next_serial s) added _ m.is (in_front (next_serial s) (ended_records s) (sync_records k s s.cursor) (ended_marks s) (sync_once k s s.cursor))
does_once p k s added f (Syncing.DoesSync.empty_stops count m) =
    once_as (next_serial s) added _ m.is (in_front (next_serial s) (ended_records s) _ (ended_marks s) (stopped_once s s.cursor count false))
does_once p k s added f (Syncing.DoesSync.stays count can first c) = once_as (next_serial s) added _ c.is (none (tt, tt))
does_once p k s added f (Syncing.DoesSync.exhausted may high is) = once_as (next_serial s) added [] is (none tt)
does_once p k s added f (Syncing.DoesSync.runs serial on quiet parts runs is) = once_as (next_serial s) added [] is (none tt)

clean_once : (p : Permit) (s : State) (added : List Rec) (e : End) → DoesCleanSync p s added e → BeginsOnce (next_serial s) true added
clean_once p s added e (Syncing.DoesCleanSync.moving on quiet some is) = once_as (next_serial s) added [] is (none tt)
clean_once p s added e (Syncing.DoesCleanSync.runs serial on quiet empty running is) = once_as (next_serial s) added [] is (none tt)
clean_once p s added e (Syncing.DoesCleanSync.syncs on quiet empty rests below is) =
    once_as (next_serial s) added _ is (once [] s.cursor false (rec.SyncDone (next_serial s) ∷ []) tt (tt, tt) refl)
clean_once p s added e (Syncing.DoesCleanSync.stops count on quiet empty rests below c is) = once_as (next_serial s) added _ is (stopped_once s s.cursor count true)
clean_once p s added e (Syncing.DoesCleanSync.exhausted on quiet empty rests high is) = once_as (next_serial s) added [] is (none tt)

pub unmark_once : (p : Permit) (s : State) (added : List Rec) (e : End) → Unmarks p s added e → BeginsOnce (next_serial s) false added
unmark_once p s added e (Syncing.Unmarks.unmarks must below is) =
    once_as (next_serial s) added _ is (in_front (next_serial s) (ended_records s) (if (once_ended s).marked then sync_records Syncing.AtOnce s s.cursor else []) (ended_marks s)
    (in_case (next_serial s) (once_ended s).marked (sync_records Syncing.AtOnce s s.cursor) (sync_once Syncing.AtOnce s s.cursor)))
unmark_once p s added e (Syncing.Unmarks.stays count must below c) = once_as (next_serial s) added _ c.is (none (tt, tt))
unmark_once p s added e (Syncing.Unmarks.stops count must below marked c is) =
    once_as (next_serial s) added _ is (in_front (next_serial s) (ended_records s) _ (ended_marks s) (stopped_once s s.cursor count false))
unmark_once p s added e (Syncing.Unmarks.exhausted must high is) = once_as (next_serial s) added [] is (none tt)

-- a group that is no clean sync begins none that is clean
abbrev pub Begins : State → Intent → List Rec → Type 0
Begins s i added = BeginsOnce (next_serial s) false added ⊎ ((i ≡ CleanSync) × BeginsOnce (next_serial s) true added)

pub group_once : (p : Permit) (s : State) (i : Intent) (added : List Rec) (e : End) → Grouped p s i added e → Begins s i added
group_once p s i added e (Grouped.Grouped.plain h) = inl (none (leave_marks added (all_as IsPlain LeavesSyncs (λ r x. x.1) added h)))
group_once p s i added e (Grouped.Grouped.inserts unmarked h) = inl (none (leave_marks added (all_as IsOfInsert LeavesSyncs insert_leaves added h)))
group_once p s i added e (Grouped.Grouped.flushes off h) = inl (none (leave_marks added h))
group_once p s i added e (Grouped.Grouped.syncs f first some d) = inl (does_once p (way_of i) s added f d)
group_once p s i added e (Grouped.Grouped.ends on h x) = inl (none (ends_marks added h))
group_once p s i added e (Grouped.Grouped.cleans is d) = inr (is, clean_once p s added e d)
group_once p s i added e (Grouped.Grouped.unmarks t u) = inl (unmark_once p s added e u)

-- ---- each takes the next serial

quiet_one : (s : State) (r : Rec) → LeavesMarks r → IsNextSerial s r
quiet_one s (rec.SyncBegun serial cursor clean in_parts) h = absurd h
quiet_one s _ h = tt

quiet_follows : (s : State) (recs : List Rec) → AllLeaveMarks recs → AllAlong IsNextSerial s recs
quiet_follows s [] h = tt
quiet_follows s (r ∷ recs) h = (quiet_one s r h.0, quiet_follows (state_after s r) recs h.1)

once_follows : {clean : Bool} (s : State) (recs : List Rec) → BeginsOnce (next_serial s) clean recs → AllAlong IsNextSerial s recs
once_follows s recs (none all) = quiet_follows s recs all
once_follows s recs (once before cursor in_parts behind first last is) =
    subst (AllAlong IsNextSerial s) (sym is)
    (along_append IsNextSerial s before _ (quiet_follows s before first) (sym (serial_left s before first), quiet_follows _ behind last))

pub serials_follow : (p : Permit) (s : State) (i : Intent) (added : List Rec) (e : End) → Does p s i added e → AllAlong IsNextSerial s added
serials_follow p s i added e d = elim (group_once p s i added e (grouped p s i added e d)) [ inl h ↦ once_follows s added h | inr h ↦ once_follows s added h.1 ]

-- ---- serials rise

rises_one : (s : State) (r : Rec) → IsHeadGreatest s → IsNextSerial s r → IsHeadGreatest (state_after s r)
rises_one s (rec.Formatted geometry) h next = (omega arith, tt)
rises_one s (rec.Opened geometry serial cursor floor next_put clean list) h next = (omega arith, tt)
rises_one s (rec.SyncBegun serial cursor clean in_parts) h next =
    (omega arith, all_as (λ (m : Mark). m.serial < next_serial s) (λ (m : Mark). m.serial < serial + 1) (λ m below. omega (arith, below, next)) s.marks h)
rises_one s _ h next = h

rises : (s : State) (recs : List Rec) → IsHeadGreatest s → AllAlong IsNextSerial s recs → IsHeadGreatest (after_all s recs)
rises s [] h follow = h
rises s (r ∷ recs) h follow = rises (state_after s r) recs (rises_one s r h follow.0) follow.1

pub serials_rise : (p : Permit) (s : State) (i : Intent) (added : List Rec) (e : End) → IsHeadGreatest s → Does p s i added e → IsHeadGreatest (after_all s added)
serials_rise p s i added e h d = rises s added h (serials_follow p s i added e d)

advanced_rises : (p : Permit) (s : State) (is : List Intent) (why : Option Reason) (added : List Rec) (after : Work) → Advances p s is why added after → AllAlong IsNextSerial s added
advanced_rises p s [] why added after d = absurd d
advanced_rises p s (i ∷ is) why added after d = serials_follow p s i added d.0 d.1

grown_rises : {p : Permit} {s : State} {w after : Work} {recs : List Rec} → MayGrow p s w recs after → AllAlong IsNextSerial s recs
grown_rises nothing = tt
grown_rises {p} {s} {w} (more {rest = tail} added between one others) =
    along_append IsNextSerial s added tail (advanced_rises p s w.intents w.refused added between one) (grown_rises others)

pub legal_serials_rise : (setting : Setting) (past : List Call) (courses : List Course) (recs : List Rec) → IsLegal setting past courses recs → IsHeadGreatest (after_all nothing_yet recs)
legal_serials_rise setting past courses recs (Legal.IsLegal.begins geometry) = (omega arith, tt)
legal_serials_rise setting past courses recs (Legal.IsLegal.opens geometry o opening) = (omega arith, tt)
legal_serials_rise setting past courses recs (Legal.IsLegal.steps {before = before} {added = added} course e legal step) =
    subst IsHeadGreatest (sym (after_all-append nothing_yet before added)) (rises (after_all nothing_yet before) added (legal_serials_rise setting _ _ before legal) (grown_rises step.grows))
legal_serials_rise setting past courses recs (Legal.IsLegal.tells call is legal) = legal_serials_rise setting _ courses recs legal
