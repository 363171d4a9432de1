-- While a clean copy may be found, the buffer of a stripe that syncs is empty.
use Rattle.std.proofs.Common.{◌≡◌, ℕ, ◌<◌, ◌⊎◌, List, [], ◌∷◌, refl, sym, ◌∙◌, ap, subst, arith, inl, inr, Bool, true, false}
use Rattle.std.specs.Prelude.{Option, ◌&&◌, if◌then◌else◌}
use Rattle.std.specs.List.{AllByRecursion}
use Rattle.device_log.specs.Calls.{Call}
use Rattle.cache_model.specs.declared.record.Rec.{Rec}
use Rattle.cache_model.specs.declared.record.Rec.TheVariants as rec
use Rattle.cache_model.specs.State.{State, after_all, is_clean_sync, nothing_yet, state_after}
use Rattle.cache_model.specs.Permit.{Permit, Setting, Intent, Reason, End, Work}
use Rattle.cache_model.specs.Syncing
use Rattle.cache_model.specs.Syncing.{DoesCleanSync, MaySyncBehind, Syncing, must_unmark}
use Rattle.cache_model.specs.Legal
use Rattle.cache_model.specs.Legal.{Advances, Course, Does, IsLegal, MayGrow, more, nothing}
use Rattle.cache_model.proofs.Aside.{AllAside, aside_leaves}
use Rattle.cache_model.proofs.Found.{no_truth}
use Rattle.cache_model.proofs.Sound.{AllLeaveTape, LeavesTape, buffer_left}
use Rattle.cache_model.proofs.Steps.{after_all-append, all_append, all_as}
use Rattle.cache_model.proofs.Syncing.{LeavesSyncs, sync_splits, unmark_aside}
use Rattle.step_laws.specs.AskLaws.{IsMarkedEmpty, way_of}
use Rattle.session_laws.proofs.Asks.{ending_begins, insert_leaves}
use Rattle.step_laws.proofs.Grouped
use Rattle.step_laws.proofs.Grouped.{Grouped, IsEnding, IsOfInsert, IsPlain, grouped}
use Rattle.session_laws.proofs.Marks.{AllLeaveMarks, LeavesMarks, ends_marks, leave_marks}
use Rattle.session_laws.proofs.Serials
use Rattle.session_laws.proofs.Serials.{BeginsOnce, does_once, unmark_once}
use Rattle.step_laws.proofs.Unsynced.{never}

-- ---- where no clean sync begins

-- the record begins no session and no clean sync
abbrev LeavesUnmarked : Rec → Type 0
LeavesUnmarked (rec.Formatted geometry) = ⊥
LeavesUnmarked (rec.Opened geometry serial cursor floor next_put clean list) = ⊥
LeavesUnmarked (rec.SyncBegun serial cursor clean in_parts) = clean ≡ false
LeavesUnmarked _ = Unit {0}

abbrev AllLeaveUnmarked : List Rec → Type 0
AllLeaveUnmarked recs = AllByRecursion LeavesUnmarked recs

marks_unmarked : (r : Rec) → LeavesMarks r → LeavesUnmarked r
marks_unmarked (rec.Formatted geometry) h = h
marks_unmarked (rec.Opened geometry serial cursor floor next_put clean list) h = h
marks_unmarked (rec.SyncBegun serial cursor clean in_parts) h = absurd h
marks_unmarked _ h = tt

quiet_unmarked : (recs : List Rec) → AllLeaveMarks recs → AllLeaveUnmarked recs
quiet_unmarked recs h = all_as LeavesMarks LeavesUnmarked marks_unmarked recs h

once_unmarked : (n : ℕ) (recs : List Rec) → BeginsOnce n false recs → AllLeaveUnmarked recs
once_unmarked n recs (Serials.BeginsOnce.none all) = quiet_unmarked recs all
once_unmarked n recs (Serials.BeginsOnce.once before cursor in_parts behind first last is) =
    subst AllLeaveUnmarked (sym is) (all_append LeavesUnmarked before (rec.SyncBegun n cursor false in_parts ∷ behind) (quiet_unmarked before first) (refl, quiet_unmarked behind last))

-- no mark is set
either : (b m : Bool) → m ≡ false → (if b then m else false) ≡ false
either true m h = h
either false m h = refl

unmarked_one : (s : State) (r : Rec) → LeavesUnmarked r → s.marked ≡ false → (state_after s r).marked ≡ false
unmarked_one s (rec.Formatted geometry) h unmarked = absurd h
unmarked_one s (rec.Opened geometry serial cursor floor next_put clean list) h unmarked = absurd h
unmarked_one s (rec.SyncBegun serial cursor clean in_parts) h unmarked = ap (λ b. if b then true else s.marked) h ∙ unmarked
unmarked_one s (rec.SyncDone serial) h unmarked = either (is_clean_sync s serial) s.marked unmarked
unmarked_one s _ h unmarked = unmarked

unmarked_stays : (s : State) (recs : List Rec) → AllLeaveUnmarked recs → s.marked ≡ false → (after_all s recs).marked ≡ false
unmarked_stays s [] h unmarked = unmarked
unmarked_stays s (r ∷ recs) h unmarked = unmarked_stays (state_after s r) recs h.1 (unmarked_one s r h.0 unmarked)

-- ---- groups

-- where no mark stood none stands
empty_unmarked : (s : State) (added : List Rec) → AllLeaveUnmarked added → s.marked ≡ false → IsMarkedEmpty (after_all s added)
empty_unmarked s added h unmarked marked = no_truth (sym marked ∙ unmarked_stays s added h unmarked)

-- and an empty buffer stays empty where nothing is placed
empty_by : (s : State) (added : List Rec) (b : Bool) → s.marked ≡ b → AllLeaveUnmarked added → AllLeaveTape added → IsMarkedEmpty s → IsMarkedEmpty (after_all s added)
empty_by s added true is h leave empty marked = (buffer_left s added leave).2 ∙ empty is
empty_by s added false is h leave empty marked = empty_unmarked s added h is marked

-- a buffer that is not empty has no mark
filled_unmarked : (s : State) (b : Bool) → s.marked ≡ b → IsMarkedEmpty s → 0 < s.filled → s.marked ≡ false
filled_unmarked s true is empty some = let none : s.filled ≡ 0 = empty is in absurd (omega (arith, none, some))
filled_unmarked s false is empty some = is

split_empty : (p : Permit) (k : Syncing) (s : State) (added : List Rec) → AllLeaveUnmarked added → IsMarkedEmpty s → MaySyncBehind p k s added ⊎ AllAside added → IsMarkedEmpty (after_all s added)
split_empty p k s added h empty (inl m) = empty_unmarked s added h (filled_unmarked s s.marked refl empty m.filled)
split_empty p k s added h empty (inr beside) = empty_by s added s.marked refl h (aside_leaves added beside) empty

-- a list of which each record leaves the tape
all_leave : (recs : List Rec) → AllByRecursion LeavesTape recs → AllLeaveTape recs
all_leave [] h = tt
all_leave (r ∷ recs) h = (h.0, all_leave recs h.1)

-- a clean sync is of an empty buffer
clean_empty : (p : Permit) (s : State) (added : List Rec) (e : End) → IsMarkedEmpty s → DoesCleanSync p s added e → IsMarkedEmpty (after_all s added)
clean_empty p s added e empty (Syncing.DoesCleanSync.moving on quiet some is) = subst (λ recs. IsMarkedEmpty (after_all s recs)) (sym is) empty
clean_empty p s added e empty (Syncing.DoesCleanSync.runs serial on quiet none running is) = subst (λ recs. IsMarkedEmpty (after_all s recs)) (sym is) empty
clean_empty p s added e empty (Syncing.DoesCleanSync.syncs on quiet none rests below is) = subst (λ recs. IsMarkedEmpty (after_all s recs)) (sym is) (λ marked. none)
clean_empty p s added e empty (Syncing.DoesCleanSync.stops count on quiet none rests below c is) = subst (λ recs. IsMarkedEmpty (after_all s recs)) (sym is) (λ marked. none)
clean_empty p s added e empty (Syncing.DoesCleanSync.exhausted on quiet none rests high is) = subst (λ recs. IsMarkedEmpty (after_all s recs)) (sym is) empty

-- where nothing has to be taken back no mark stands
unmarked_of : (p : Permit) (s : State) → p.syncs ≡ true → must_unmark p s ≡ false → s.marked ≡ false
unmarked_of p s on unmarked = sym (ap (λ b. b && s.marked) on) ∙ unmarked

group_empty : (p : Permit) (s : State) (i : Intent) (added : List Rec) (e : End) → p.syncs ≡ true → IsMarkedEmpty s → Grouped p s i added e → IsMarkedEmpty (after_all s added)
group_empty p s i added e on empty (Grouped.Grouped.plain h) =
    empty_by s added s.marked refl (quiet_unmarked added (leave_marks added (all_as IsPlain LeavesSyncs (λ r x. x.1) added h)))
    (all_leave added (all_as IsPlain LeavesTape (λ r x. x.0) added h)) empty
group_empty p s i added e on empty (Grouped.Grouped.inserts unmarked h) =
    empty_unmarked s added (quiet_unmarked added (leave_marks added (all_as IsOfInsert LeavesSyncs insert_leaves added h))) (unmarked_of p s on unmarked)
group_empty p s i added e on empty (Grouped.Grouped.flushes off h) = never off on
group_empty p s i added e on empty (Grouped.Grouped.syncs f first some d) =
    split_empty p (way_of i) s added (once_unmarked _ added (does_once p (way_of i) s added f d)) empty (sync_splits p (way_of i) s added f d)
group_empty p s i added e on empty (Grouped.Grouped.ends o h x) =
    empty_by s added s.marked refl (quiet_unmarked added (ends_marks added h)) (all_leave added (all_as IsEnding LeavesTape ending_begins added h)) empty
group_empty p s i added e on empty (Grouped.Grouped.cleans is d) = clean_empty p s added e empty d
group_empty p s i added e on empty (Grouped.Grouped.unmarks t u) =
    empty_by s added s.marked refl (once_unmarked _ added (unmark_once p s added e u)) (aside_leaves added (unmark_aside p s added e u)) empty

pub marked_stays_empty : (p : Permit) (s : State) (i : Intent) (added : List Rec) (e : End) → p.syncs ≡ true → IsMarkedEmpty s → Does p s i added e → IsMarkedEmpty (after_all s added)
marked_stays_empty p s i added e on empty d = group_empty p s i added e on empty (grouped p s i added e d)

-- ---- steps

advanced_empty : (p : Permit) (s : State) (is : List Intent) (why : Option Reason) (added : List Rec) (after : Work) → p.syncs ≡ true → IsMarkedEmpty s → Advances p s is why added after
    → IsMarkedEmpty (after_all s added)
advanced_empty p s [] why added after on empty d = absurd d
advanced_empty p s (i ∷ is) why added after on empty d = marked_stays_empty p s i added d.0 on empty d.1

grown_empty : {p : Permit} {s : State} {w after : Work} {recs : List Rec} → p.syncs ≡ true → IsMarkedEmpty s → MayGrow p s w recs after → IsMarkedEmpty (after_all s recs)
grown_empty on empty nothing = empty
grown_empty {p} {s} {w} on empty (more {rest = tail} added between one others) =
    subst IsMarkedEmpty (sym (after_all-append s added tail)) (grown_empty on (advanced_empty p s w.intents w.refused added between on empty one) others)

pub marked_is_empty : (setting : Setting) (past : List Call) (courses : List Course) (recs : List Rec) → setting.syncs ≡ true → IsLegal setting past courses recs → IsMarkedEmpty (after_all nothing_yet recs)
marked_is_empty setting past courses recs on (Legal.IsLegal.begins geometry) = λ marked. refl
marked_is_empty setting past courses recs on (Legal.IsLegal.opens geometry o opening) = λ marked. refl
marked_is_empty setting past courses recs on (Legal.IsLegal.steps {before = before} {added = added} course set legal step) =
    subst IsMarkedEmpty (sym (after_all-append nothing_yet before added)) (grown_empty (set.syncs ∙ on) (marked_is_empty setting _ _ before on legal) step.grows)
marked_is_empty setting past courses recs on (Legal.IsLegal.tells call is legal) = marked_is_empty setting _ courses recs on legal
