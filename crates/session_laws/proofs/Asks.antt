-- Where groups tell of syncs, and what a clean mark holds back.
use Rattle.std.proofs.Common.{◌≡◌, ℕ, ◌<◌, ◌⊎◌, List, [], ◌∷◌, ◌++◌, refl, sym, ◌∙◌, ap, subst, arith, inl, inr, Bool, true, false}
use Rattle.std.specs.Prelude.{Option, Some, ◌&&◌, if◌then◌else◌, option_map, option_to_list}
use Rattle.std.specs.List.{AllByRecursion}
use Rattle.std.proofs.lemmas.Bool.{eq-eqb}
use Rattle.cache_model.specs.declared.record.Rec.{Rec}
use Rattle.cache_model.specs.declared.record.Rec.TheVariants as rec
use Rattle.cache_model.specs.State.{State, Row, after_all}
use Rattle.cache_model.specs.Permit.{Permit, IsAmong, Intent, Fragment, Finish, Reason, End, Fails, Work}
use Rattle.cache_model.specs.Due.{due_pieces}
use Rattle.cache_model.specs.Outcomes.{flush_tail, front_of}
use Rattle.cache_model.specs.Syncing
use Rattle.cache_model.specs.Syncing.{DoesSync, MaySyncBehind, Syncing, Unmarks, WhereDue, at_first, behind_records, ended_records, ends_first, first_records, is_in_parts, must_unmark, needs_sync, needs_whole, next_serial, once_ended, sync_records, unmark_records}
use Rattle.cache_model.specs.Legal
use Rattle.cache_model.specs.Legal.{Advances, Does, IsStep, MakesRoom, MayGrow, more, nothing, stays_behind}
use Rattle.cache_model.proofs.Aside.{AllAside, IsAside}
use Rattle.cache_model.proofs.Found.{no_truth}
use Rattle.cache_model.proofs.Sound.{LeavesTape}
use Rattle.cache_model.proofs.Steps.{after_all-append, all_append, all_as}
use Rattle.cache_model.proofs.Syncing.{LeavesSyncs, clean_aside, sync_splits, unmark_aside}
use Rattle.step_laws.specs.AskLaws.{IsHeldBack, TellNoSync, is_of_sync, is_placement, places, way_of}
use Rattle.model_laws.proofs.Asked.{none_due}
use Rattle.step_laws.proofs.Grouped
use Rattle.step_laws.proofs.Grouped.{Grouped, IsEnding, IsOfInsert, IsPlain, grouped}
use Rattle.step_laws.proofs.Unsynced.{clean_on, never, sync_on, unmark_on}

-- what holds of each record holds of one among them
pub among_holds : {X : Type 0} (P : X → Type 0) (x : X) (xs : List X) → AllByRecursion P xs → IsAmong x xs → P x
among_holds P x [] each among = absurd among
among_holds P x (y ∷ ys) each (inl same) = subst P (sym same) each.0
among_holds P x (y ∷ ys) each (inr behind) = among_holds P x ys each.1 behind

-- ---- a stripe that does not sync

leaves_silent : (r : Rec) → LeavesSyncs r → is_of_sync r ≡ false
leaves_silent (rec.SyncBegun serial cursor clean in_parts) h = absurd h
leaves_silent (rec.SyncDone serial) h = absurd h
leaves_silent _ h = refl

pub insert_leaves : (r : Rec) → IsOfInsert r → LeavesSyncs r
insert_leaves (rec.Formatted geometry) h = h
insert_leaves (rec.Opened geometry serial cursor floor next_put clean list) h = h
insert_leaves (rec.SyncBegun serial cursor clean in_parts) h = h
insert_leaves (rec.SyncDone serial) h = h
insert_leaves _ h = tt

group_silent : {p : Permit} {s : State} {i : Intent} {added : List Rec} {e : End} → p.syncs ≡ false → Grouped p s i added e → TellNoSync added
group_silent {added = added} off (Grouped.Grouped.plain h) = all_as IsPlain (λ r. is_of_sync r ≡ false) (λ r x. leaves_silent r x.1) added h
group_silent {added = added} off (Grouped.Grouped.inserts unmarked h) = all_as IsOfInsert (λ r. is_of_sync r ≡ false) (λ r x. leaves_silent r (insert_leaves r x)) added h
group_silent {added = added} off (Grouped.Grouped.flushes none h) = all_as LeavesSyncs (λ r. is_of_sync r ≡ false) leaves_silent added h
group_silent off (Grouped.Grouped.syncs f first some d) = never off (sync_on d)
group_silent off (Grouped.Grouped.ends on h x) = never off on
group_silent off (Grouped.Grouped.cleans is d) = never off (clean_on d)
group_silent off (Grouped.Grouped.unmarks t u) = never off (unmark_on u)

pub no_sync_is_recorded : (p : Permit) (s : State) (i : Intent) (added : List Rec) (e : End) → p.syncs ≡ false → Does p s i added e → TellNoSync added
no_sync_is_recorded p s i added e off d = group_silent off (grouped p s i added e d)

advanced_silent : (p : Permit) (s : State) (is : List Intent) (why : Option Reason) (added : List Rec) (after : Work) → p.syncs ≡ false → Advances p s is why added after → TellNoSync added
advanced_silent p s [] why added after off h = absurd h
advanced_silent p s (i ∷ is) why added after off h = no_sync_is_recorded p s i added h.0 off h.1

grown_silent : {p : Permit} {s : State} {w after : Work} {recs : List Rec} → p.syncs ≡ false → MayGrow p s w recs after → TellNoSync recs
grown_silent off nothing = tt
grown_silent {p} {s} {w} off (more {rest = tail} added between one others) =
    all_append (λ r. is_of_sync r ≡ false) added tail (advanced_silent p s w.intents w.refused added between off one) (grown_silent off others)

pub steps_tell_no_sync : (p : Permit) (s : State) (intents : List Intent) (added : List Rec) (why : Option Reason)
    → p.syncs ≡ false → IsStep p s intents added why → TellNoSync added
steps_tell_no_sync p s intents added why off step = grown_silent off step.grows

-- ---- a clean mark

leaves_unplaced : (r : Rec) → LeavesTape r → is_placement r ≡ false
leaves_unplaced (rec.Placed piece place blocks digest pin) h = absurd h
leaves_unplaced (rec.Moved piece from place digest) h = absurd h
leaves_unplaced _ h = refl

ending_unplaced : (r : Rec) → IsEnding r → is_placement r ≡ false
ending_unplaced (rec.SyncDone serial) h = refl
ending_unplaced (rec.Fault count) h = refl
ending_unplaced _ h = absurd h

abbrev PlacesNothing : List Rec → Type 0
PlacesNothing recs = AllByRecursion (λ (r : Rec). is_placement r ≡ false) recs

aside_unplaced : (recs : List Rec) → AllAside recs → PlacesNothing recs
aside_unplaced recs h = all_as IsAside (λ r. is_placement r ≡ false) (λ r x. leaves_unplaced r x.0) recs h

must_where : (p : Permit) (s : State) → p.syncs ≡ true → s.marked ≡ true → must_unmark p s ≡ true
must_where p s on marked = ap (λ b. b && s.marked) on ∙ marked

split_unplaced : {p : Permit} {k : Syncing} {s : State} {added : List Rec} → s.filled ≡ 0 → MaySyncBehind p k s added ⊎ AllAside added → PlacesNothing added
split_unplaced {s = s} none (inl m) = let some : 0 < s.filled = m.filled in absurd (omega (arith, none, some))
split_unplaced {added = added} none (inr beside) = aside_unplaced added beside

group_unplaced : (p : Permit) (s : State) (i : Intent) (added : List Rec) (e : End) → p.syncs ≡ true → must_unmark p s ≡ true → s.filled ≡ 0 → Grouped p s i added e → PlacesNothing added
group_unplaced p s i added e on must none (Grouped.Grouped.plain h) = all_as IsPlain (λ r. is_placement r ≡ false) (λ r x. leaves_unplaced r x.0) added h
group_unplaced p s i added e on must none (Grouped.Grouped.inserts unmarked h) = no_truth (sym must ∙ unmarked)
group_unplaced p s i added e on must none (Grouped.Grouped.flushes off h) = never off on
group_unplaced p s i added e on must none (Grouped.Grouped.syncs f first some d) = split_unplaced none (sync_splits p (way_of i) s added f d)
group_unplaced p s i added e on must none (Grouped.Grouped.ends o h x) = all_as IsEnding (λ r. is_placement r ≡ false) ending_unplaced added h
group_unplaced p s i added e on must none (Grouped.Grouped.cleans is d) = aside_unplaced added (clean_aside p s added e d)
group_unplaced p s i added e on must none (Grouped.Grouped.unmarks t u) = aside_unplaced added (unmark_aside p s added e u)

pub marked_places_nothing : (p : Permit) (s : State) (i : Intent) (added : List Rec) (e : End) → p.syncs ≡ true → s.marked ≡ true → s.filled ≡ 0
    → Does p s i added e → AllByRecursion (λ (r : Rec). is_placement r ≡ false) added
marked_places_nothing p s i added e on marked none d = group_unplaced p s i added e on (must_where p s on marked) none (grouped p s i added e d)

-- a sync that is not clean takes the mark back
unmarked_by : (s : State) (b : Bool) (serial cursor : ℕ) → s.marked ≡ b
    → (after_all s (if b then rec.SyncBegun serial cursor false false ∷ rec.SyncDone serial ∷ [] else [])).marked ≡ false
unmarked_by s false serial cursor is = is
unmarked_by s true serial cursor is = rw (eq-eqb serial serial refl) refl

held_unmark : (p : Permit) (s : State) (added : List Rec) (e : End) → Unmarks p s added e → IsHeldBack (after_all s added) e
held_unmark p s added e (Syncing.Unmarks.unmarks must below is) =
    ap (λ recs. (after_all s recs).marked) is
    ∙ ap (λ (t : State). t.marked) (after_all-append s (ended_records s) (if (once_ended s).marked then sync_records Syncing.AtOnce s s.cursor else []))
    ∙ unmarked_by (once_ended s) (once_ended s).marked (next_serial s) s.cursor refl
held_unmark p s added e (Syncing.Unmarks.stays count must below c) = tt
held_unmark p s added e (Syncing.Unmarks.stops count must below marked c is) = tt
held_unmark p s added e (Syncing.Unmarks.exhausted must high is) = tt

held_room : (p : Permit) (s t : State) (bytes : ℕ) (added : List Rec) (e : End) → p.syncs ≡ true → s.filled ≡ 0 → MakesRoom p s bytes added e → IsHeldBack t e
held_room p s t bytes added e on none (Legal.MakesRoom.flushes x m) = never m.unsynced on
held_room p s t bytes added e on none (Legal.MakesRoom.stops count x m) = tt
held_room p s t bytes added e on none (Legal.MakesRoom.exhausted x q is) = tt
held_room p s t bytes added e on none (Legal.MakesRoom.syncs f x d is) = absurd (none_due p s added f none d)

held_failed : (t : State) (e : End) (why : Reason) → e ≡ Fails why → IsHeldBack t e
held_failed t e why is = subst (IsHeldBack t) (sym is) tt

pub mark_is_taken_back : (p : Permit) (s : State) (i : Intent) (added : List Rec) (e : End) → places i ≡ true → p.syncs ≡ true → s.marked ≡ true
    → s.filled ≡ 0 → Does p s i added e → IsHeldBack (after_all s added) e
mark_is_taken_back p s (Fragment put index payload) added e t on marked none (Legal.DoesFragment.unmarks w n q u) = held_unmark p s added e u
mark_is_taken_back p s (Fragment put index payload) added e t on marked none (Legal.DoesFragment.places is m) = no_truth (sym (must_where p s on marked) ∙ m.unmarked)
mark_is_taken_back p s (Fragment put index payload) added e t on marked none (Legal.DoesFragment.rooms w n m) = held_room p s (after_all s added) _ added e on none m
mark_is_taken_back p s (Fragment put index payload) added e t on marked none (Legal.DoesFragment.exhausted w x n q) = held_failed (after_all s added) e _ x
mark_is_taken_back p s (Finish put fragments) added e t on marked none (Legal.DoesFinish.unmarks w c l q u) = held_unmark p s added e u
mark_is_taken_back p s (Finish put fragments) added e t on marked none (Legal.DoesFinish.places is m) = no_truth (sym (must_where p s on marked) ∙ m.unmarked)
mark_is_taken_back p s (Finish put fragments) added e t on marked none (Legal.DoesFinish.rooms w c m) = held_room p s (after_all s added) _ added e on none m
mark_is_taken_back p s (Finish put fragments) added e t on marked none (Legal.DoesFinish.loses w index x m is) = held_failed (after_all s added) e _ x
mark_is_taken_back p s (Finish put fragments) added e t on marked none (Legal.DoesFinish.exhausted w x c l q) = held_failed (after_all s added) e _ x
mark_is_taken_back p s _ added e t on marked none d = no_truth (sym t)

-- ---- the sync in parts is ended first

pub ending_begins : (r : Rec) → IsEnding r → LeavesTape r
ending_begins (rec.SyncDone serial) h = tt
ending_begins (rec.Fault count) h = tt
ending_begins _ h = absurd h

-- where the next buffer begins in a stripe that syncs, the buffer was written out with the syncs behind it
pub begins_behind : (p : Permit) (s : State) (i : Intent) (added : List Rec) (e : End) (cursor floor : ℕ) → p.syncs ≡ true → Grouped p s i added e → IsAmong (rec.Began cursor floor) added
    → MaySyncBehind p (way_of i) s added
begins_behind p s i added e cursor floor on (Grouped.Grouped.plain h) among = absurd (among_holds IsPlain (rec.Began cursor floor) added h among).0
begins_behind p s i added e cursor floor on (Grouped.Grouped.inserts unmarked h) among = absurd (among_holds IsOfInsert (rec.Began cursor floor) added h among)
begins_behind p s i added e cursor floor on (Grouped.Grouped.flushes off h) among = never off on
begins_behind p s i added e cursor floor on (Grouped.Grouped.syncs f first some d) among = elim (sync_splits p (way_of i) s added f d) [
  | inl m ↦ m
  | inr beside ↦ absurd (among_holds IsAside (rec.Began cursor floor) added beside among).0
]
begins_behind p s i added e cursor floor on (Grouped.Grouped.ends o h x) among = absurd (among_holds IsEnding (rec.Began cursor floor) added h among)
begins_behind p s i added e cursor floor on (Grouped.Grouped.cleans is d) among = absurd (among_holds IsAside (rec.Began cursor floor) added (clean_aside p s added e d) among).0
begins_behind p s i added e cursor floor on (Grouped.Grouped.unmarks t u) among = absurd (among_holds IsAside (rec.Began cursor floor) added (unmark_aside p s added e u) among).0

pub first_is : (k : Syncing) (s : State) (serial : ℕ) → s.running ≡ Some serial → ends_first k s ≡ true → first_records k s ≡ rec.SyncDone serial ∷ []
first_is k s serial running first = ap (λ b. if b then ended_records s else []) first ∙ ap (λ r. option_to_list (option_map rec.SyncDone r)) running

pub ended_first : (p : Permit) (s : State) (i : Intent) (added : List Rec) (e : End) (serial cursor floor : ℕ) → p.syncs ≡ true
    → s.running ≡ Some serial → ends_first (way_of i) s ≡ true → Does p s i added e → IsAmong (rec.Began cursor floor) added
    → (behind : List Rec) × (added ≡ rec.SyncDone serial ∷ behind)
ended_first p s i added e serial cursor floor on running first d among =
    let k : Syncing = way_of i in
    let m : MaySyncBehind p k s added = begins_behind p s i added e cursor floor on (grouped p s i added e d) among in
    let rows : List Row = due_pieces s p.now in
    let rest : List Rec = front_of rows m.outcomes ++ (behind_records k (at_first k s) ++ flush_tail s rows m.outcomes) in
    (rest, m.is ∙ ap (λ recs. recs ++ rest) (first_is k s serial running first))
