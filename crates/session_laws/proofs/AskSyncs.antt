-- A sync that is due stands before the next buffer, none begins without a cause, and serials rise.
use Rattle.std.proofs.Common.{◌≡◌, ℕ, ◌<◌, ◌⊎◌, List, [], ◌∷◌, ◌++◌, append_assoc, refl, sym, ◌∙◌, ap, subst, arith, inl, inr, Bool, true, false}
use Rattle.std.specs.Prelude.{Some, if◌then◌else◌, option_map, option_to_list}
use Rattle.cache_model.specs.declared.record.Rec.{Rec}
use Rattle.cache_model.specs.declared.record.Rec.TheVariants as rec
use Rattle.cache_model.specs.State.{State, Row, after_all, cursor_next, state_after}
use Rattle.cache_model.specs.Permit.{Permit, IsAmong, Intent, Flush, Sync, SyncBegin, Drain, Fragment, Finish, End, Stays, Done}
use Rattle.cache_model.specs.Due.{due_pieces}
use Rattle.cache_model.specs.Outcomes.{began_record, copies_of, flush_tail, front_of, moved_records, stopped_front_of}
use Rattle.cache_model.specs.Syncing
use Rattle.cache_model.specs.Syncing.{DoesCleanSync, DoesSync, InParts, MayStopSync, MaySyncBehind, StopsBehind, Syncing, Unmarks, WhereDue, at_first, behind_records, begun_record, ended_records, ends_first, first_records, is_asked, is_in_parts, must_unmark, needs_sync, needs_whole, next_serial, once_ended, sync_records, unmark_records}
use Rattle.cache_model.specs.Legal
use Rattle.cache_model.specs.Legal.{Advances, Course, Does, IsLegal, IsStep, MakesRoom, MayFlush, MayGrow, more, nothing, stays_behind}
use Rattle.cache_model.proofs.Aside.{IsAside}
use Rattle.cache_model.proofs.Found.{no_truth}
use Rattle.cache_model.proofs.SoundFlush.{front_aside}
use Rattle.cache_model.proofs.Steps.{all_append, all_as}
use Rattle.cache_model.specs.ToRead.{flushes_first}
use Rattle.cache_model.proofs.Syncing.{LeavesSyncs, after_syncs, first_of, front_leaves_syncs, tail_leaves_syncs}
use Rattle.step_laws.specs.AskLaws
use Rattle.step_laws.specs.AskLaws.{EndsBefore, IntentHasCause, IsHeadGreatest, IsNextSerial, SyncsBefore, asks_sync, begins_next_buffer, places, way_of}
use Rattle.model_laws.proofs.Among.{among_behind, among_rest}
use Rattle.session_laws.proofs.Asks.{among_holds, begins_behind, first_is}
use Rattle.step_laws.proofs.Grouped
use Rattle.step_laws.proofs.Grouped.{AreEnding, Grouped, IsEnding, IsOfInsert, IsPlain, ended_ends, grouped, stopped_leaves_syncs}
use Rattle.session_laws.proofs.Marks.{AllLeaveMarks, LeavesMarks, ended_marks, first_marks, leave_marks, serial_left, where_marks}
use Rattle.step_laws.proofs.Unsynced.{must_of}

-- ---- the sync that is due

-- where it stands among the records of a flush
sync_shape : (first front ended sync tail : List Rec) → first ++ (front ++ ((ended ++ sync) ++ tail)) ≡ (first ++ (front ++ ended)) ++ (sync ++ tail)
sync_shape first front ended sync tail =
    ap (λ recs. first ++ (front ++ recs)) (append_assoc ended sync tail)
    ∙ ap (λ recs. first ++ recs) (sym (append_assoc front ended (sync ++ tail)))
    ∙ sym (append_assoc first (front ++ ended) (sync ++ tail))

-- one that is written at once begins and ends right before the next buffer
pub whole_shape : (p : Permit) (k : Syncing) (s : State) (added : List Rec) → is_in_parts k ≡ false → needs_whole k (at_first k s) ≡ true → (m : MaySyncBehind p k s added)
    → (before : List Rec) × (added ≡ before ++ rec.SyncBegun (next_serial s) (cursor_next s) false false ∷ rec.SyncDone (next_serial s) ∷ flush_tail s (due_pieces s p.now) m.outcomes)
whole_shape p k s added parts whole m =
    let rows : List Row = due_pieces s p.now in
    let f : State = at_first k s in
    let first : List Rec = first_records k s in
    let front : List Rec = front_of rows m.outcomes in
    let tail : List Rec = flush_tail s rows m.outcomes in
    let ended : List Rec = if needs_sync k f then ended_records f else [] in
    let sync : List Rec = rec.SyncBegun (next_serial s) (cursor_next s) false false ∷ rec.SyncDone (next_serial s) ∷ [] in
    let serial : next_serial f ≡ next_serial s = serial_left s first (first_marks k s) in
    let cursor : cursor_next f ≡ cursor_next s = ap cursor_next (after_syncs s first (first_of k s)) in
    let is : (if needs_whole k f then sync_records k f (cursor_next f) else []) ≡ sync =
    ap (λ b. if b then sync_records k f (cursor_next f) else []) whole
    ∙ ap (λ b. rec.SyncBegun (next_serial f) (cursor_next f) false b ∷ (if b then [] else rec.SyncDone (next_serial f) ∷ [])) parts
    ∙ ap (λ n. rec.SyncBegun n (cursor_next f) false false ∷ rec.SyncDone n ∷ []) serial
    ∙ ap (λ n. rec.SyncBegun (next_serial s) n false false ∷ rec.SyncDone (next_serial s) ∷ []) cursor in
    (first ++ (front ++ ended), m.is ∙ ap (λ recs. first ++ (front ++ ((ended ++ recs) ++ tail))) is ∙ sync_shape first front ended sync tail)

due_shape : (p : Permit) (k : Syncing) (s : State) (added : List Rec) → is_in_parts k ≡ false → needs_whole k (at_first k s) ≡ true → MaySyncBehind p k s added → SyncsBefore s added
due_shape p k s added parts whole m =
    let d = whole_shape p k s added parts whole m in
    record { before = d.0; behind = moved_records (state_after (after_all s (front_of (due_pieces s p.now) m.outcomes)) (began_record s)) (copies_of (due_pieces s p.now) m.outcomes); is = d.1 }

-- one that later steps write begins right before the next buffer
pub parts_shape : (p : Permit) (s : State) (added : List Rec) (m : MaySyncBehind p InParts s added)
    → (before : List Rec) × (added ≡ before ++ rec.SyncBegun (next_serial s) (cursor_next s) false true ∷ flush_tail s (due_pieces s p.now) m.outcomes)
parts_shape p s added m =
    let rows : List Row = due_pieces s p.now in
    let f : State = at_first InParts s in
    let first : List Rec = first_records InParts s in
    let front : List Rec = front_of rows m.outcomes in
    let tail : List Rec = flush_tail s rows m.outcomes in
    let sync : List Rec = rec.SyncBegun (next_serial s) (cursor_next s) false true ∷ [] in
    let is : rec.SyncBegun (next_serial f) (cursor_next f) false true ∷ [] ≡ sync =
    ap (λ n. rec.SyncBegun n (cursor_next f) false true ∷ []) (serial_left s first (first_marks InParts s))
    ∙ ap (λ n. rec.SyncBegun (next_serial s) n false true ∷ []) (ap cursor_next (after_syncs s first (first_of InParts s))) in
    (first ++ (front ++ ended_records f), m.is ∙ ap (λ recs. first ++ (front ++ ((ended_records f ++ recs) ++ tail))) is ∙ sync_shape first front (ended_records f) sync tail)

pub due_is_synced : (p : Permit) (s : State) (i : Intent) (added : List Rec) (e : End) (cursor floor : ℕ) → p.syncs ≡ true
    → is_in_parts (way_of i) ≡ false → needs_whole (way_of i) (at_first (way_of i) s) ≡ true → Does p s i added e
    → IsAmong (rec.Began cursor floor) added → SyncsBefore s added
due_is_synced p s i added e cursor floor on parts whole d among =
    due_shape p (way_of i) s added parts whole (begins_behind p s i added e cursor floor on (grouped p s i added e d) among)

-- ---- the sync in parts that goes on

-- the record begins no buffer
abbrev BeginsNone : Rec → Type 0
BeginsNone r = begins_next_buffer r ≡ false

aside_begins : (r : Rec) → IsAside r → BeginsNone r
aside_begins (rec.Began cursor floor) h = absurd h.0
aside_begins _ h = refl

ends_by : (p : Permit) (k : Syncing) (s : State) (added : List Rec) (serial : ℕ) (b : Bool) → s.running ≡ Some serial → needs_sync k s ≡ true → ends_first k s ≡ b
    → MaySyncBehind p k s added → EndsBefore serial added
ends_by p k s added serial true running needed first m =
    let rows : List Row = due_pieces s p.now in
    let rest : List Rec = front_of rows m.outcomes ++ (behind_records k (at_first k s) ++ flush_tail s rows m.outcomes) in
    record { before = []; behind = rest; is = m.is ∙ ap (λ recs. recs ++ rest) (first_is k s serial running first); first = tt }
ends_by p k s added serial false running needed first m =
    let rows : List Row = due_pieces s p.now in
    let front : List Rec = front_of rows m.outcomes in
    let tail : List Rec = flush_tail s rows m.outcomes in
    let none : first_records k s ≡ [] = ap (λ b. if b then ended_records s else []) first in
    let here : at_first k s ≡ s = ap (after_all s) none in
    let whole : List Rec = if needs_whole k s then sync_records k s (cursor_next s) else [] in
    let ended : (if needs_sync k s then ended_records s else []) ≡ rec.SyncDone serial ∷ [] =
    ap (λ b. if b then ended_records s else []) needed ∙ ap (λ r. option_to_list (option_map rec.SyncDone r)) running in
    let behind : behind_records k (at_first k s) ≡ rec.SyncDone serial ∷ whole = ap (behind_records k) here ∙ ap (λ recs. recs ++ whole) ended in
    record {
      before = front;
      behind = whole ++ tail;
      is = m.is ∙ ap (λ recs. recs ++ (front ++ (behind_records k (at_first k s) ++ tail))) none ∙ ap (λ recs. front ++ (recs ++ tail)) behind;
      first = all_as IsAside BeginsNone aside_begins front (front_aside rows m.outcomes);
    }

pub due_is_ended : (p : Permit) (s : State) (i : Intent) (added : List Rec) (e : End) (serial cursor floor : ℕ) → p.syncs ≡ true
    → s.running ≡ Some serial → needs_sync (way_of i) s ≡ true → Does p s i added e → IsAmong (rec.Began cursor floor) added → EndsBefore serial added
due_is_ended p s i added e serial cursor floor on running needed d among =
    ends_by p (way_of i) s added serial (ends_first (way_of i) s) running needed refl (begins_behind p s i added e cursor floor on (grouped p s i added e d) among)

-- ---- the next buffer begins

flush_begins_of : (p : Permit) (s : State) (added : List Rec) → MayFlush p s added → IsAmong (began_record s) added
flush_begins_of p s added m =
    let rows : List Row = due_pieces s p.now in
    subst (IsAmong (began_record s)) (sym m.is) (among_behind (began_record s) (front_of rows m.outcomes) _)

sync_begins : (p : Permit) (k : Syncing) (s : State) (added : List Rec) → MaySyncBehind p k s added → IsAmong (began_record s) added
sync_begins p k s added m =
    let rows : List Row = due_pieces s p.now in
    let front : List Rec = front_of rows m.outcomes in
    let behind : List Rec = behind_records k (at_first k s) in
    let tail : List Rec = flush_tail s rows m.outcomes in
    subst (IsAmong (began_record s)) (sym m.is)
    (among_rest (began_record s) (first_records k s) (front ++ (behind ++ tail))
    (among_rest (began_record s) front (behind ++ tail)
    (among_rest (began_record s) behind tail (inl refl))))

begins_by : (p : Permit) (s : State) (added : List Rec) (f : End) → DoesSync p WhereDue s added f → stays_behind f ≡ Stays → IsAmong (began_record s) added
begins_by p s added f (Syncing.DoesSync.goes m) h = sync_begins p WhereDue s added m
begins_by p s added f (Syncing.DoesSync.stops count m) h = cc
begins_by p s added f (Syncing.DoesSync.empty m) h = no_truth (sym m.asked)
begins_by p s added f (Syncing.DoesSync.empty_stops count m) h = cc
begins_by p s added f (Syncing.DoesSync.stays count can first c) h = cc
begins_by p s added f (Syncing.DoesSync.exhausted may high is) h = cc
begins_by p s added f (Syncing.DoesSync.runs serial on quiet parts runs is) h = cc

pub flush_begins : (p : Permit) (s : State) (added : List Rec) → 0 < s.filled → Does p s Flush added Done → IsAmong (began_record s) added
flush_begins p s added some (Legal.DoesFlush.empty q none is) = absurd (omega (arith, some, none))
flush_begins p s added some (Legal.DoesFlush.flushes m) = flush_begins_of p s added m
flush_begins p s added some (Legal.DoesFlush.syncs d) = begins_by p s added Done d refl

room_begins_by : (p : Permit) (s : State) (bytes : ℕ) (added : List Rec) (e : End) → e ≡ Stays → MakesRoom p s bytes added e → IsAmong (began_record s) added
room_begins_by p s bytes added e h (Legal.MakesRoom.flushes x m) = flush_begins_of p s added m
room_begins_by p s bytes added e h (Legal.MakesRoom.stops count x m) = cc
room_begins_by p s bytes added e h (Legal.MakesRoom.exhausted x q is) = cc
room_begins_by p s bytes added e h (Legal.MakesRoom.syncs f x d is) = begins_by p s added f d (sym is ∙ h)

pub room_begins : (p : Permit) (s : State) (i : Intent) (added : List Rec) → places i ≡ true → must_unmark p s ≡ false
    → Does p s i added Stays → IsAmong (began_record s) added
room_begins p s (Fragment put index payload) added t unmarked (Legal.DoesFragment.unmarks w n q u) = no_truth (sym (must_of u) ∙ unmarked)
room_begins p s (Fragment put index payload) added t unmarked (Legal.DoesFragment.places is m) = cc
room_begins p s (Fragment put index payload) added t unmarked (Legal.DoesFragment.rooms w n m) = room_begins_by p s _ added Stays refl m
room_begins p s (Fragment put index payload) added t unmarked (Legal.DoesFragment.exhausted w x n q) = cc
room_begins p s (Finish put fragments) added t unmarked (Legal.DoesFinish.unmarks w c l q u) = no_truth (sym (must_of u) ∙ unmarked)
room_begins p s (Finish put fragments) added t unmarked (Legal.DoesFinish.places is m) = cc
room_begins p s (Finish put fragments) added t unmarked (Legal.DoesFinish.rooms w c m) = room_begins_by p s _ added Stays refl m
room_begins p s (Finish put fragments) added t unmarked (Legal.DoesFinish.loses w index x m is) = cc
room_begins p s (Finish put fragments) added t unmarked (Legal.DoesFinish.exhausted w x c l q) = cc
room_begins p s _ added t unmarked d = no_truth (sym t)

-- ---- why a sync begins

-- none begins among records that begin none
none_begun : {X : Type 0} (serial cursor : ℕ) (clean in_parts : Bool) (added other : List Rec) → added ≡ other → AllLeaveMarks other → IsAmong (rec.SyncBegun serial cursor clean in_parts) added → X
none_begun serial cursor clean in_parts added other is h among =
    absurd (among_holds LeavesMarks (rec.SyncBegun serial cursor clean in_parts) other h (subst (IsAmong (rec.SyncBegun serial cursor clean in_parts)) is among))

-- where no sync is due behind the buffer, none begins there
unneeded_marks : (k : Syncing) (s : State) (cursor : ℕ) (b : Bool) → needs_whole k s ≡ b → b ≡ false → AllLeaveMarks (if needs_whole k s then sync_records k s cursor else [])
unneeded_marks k s cursor b is none = subst (λ t. AllLeaveMarks (if t then sync_records k s cursor else [])) (sym (is ∙ none)) tt

goes_marks : (p : Permit) (k : Syncing) (s : State) (added : List Rec) (m : MaySyncBehind p k s added) → needs_whole k (at_first k s) ≡ false
    → AllLeaveMarks (first_records k s ++ (front_of (due_pieces s p.now) m.outcomes ++ (behind_records k (at_first k s) ++ flush_tail s (due_pieces s p.now) m.outcomes)))
goes_marks p k s added m none =
    let rows : List Row = due_pieces s p.now in
    let f : State = at_first k s in
    let ended : List Rec = if needs_sync k f then ended_records f else [] in
    let sync : List Rec = if needs_whole k f then sync_records k f (cursor_next f) else [] in
    all_append LeavesMarks (first_records k s) _ (first_marks k s)
    (all_append LeavesMarks (front_of rows m.outcomes) _ (leave_marks (front_of rows m.outcomes) (front_leaves_syncs rows m.outcomes))
    (all_append LeavesMarks (behind_records k f) _
    (all_append LeavesMarks ended sync (where_marks (needs_sync k f) (ended_records f) (ended_marks f)) (unneeded_marks k f (cursor_next f) _ refl none))
    (leave_marks (flush_tail s rows m.outcomes) (tail_leaves_syncs s rows m.outcomes))))

-- a flush stops behind a sync that was needed, or behind none
pub stops_by : {p : Permit} {k : Syncing} {s : State} {front : List Rec} {count : ℕ} {begun : List Rec} → StopsBehind p k s front count begun → (needs_whole k s ≡ true) ⊎ (begun ≡ [])
stops_by (Syncing.StopsBehind.buffer c) = inr refl
stops_by (Syncing.StopsBehind.ended t n r c) = inr refl
stops_by (Syncing.StopsBehind.whole t n c) = inl n

stops_marks : (p : Permit) (k : Syncing) (s : State) (count : ℕ) (added : List Rec) (m : MayStopSync p k s count added) → m.begun ≡ []
    → AllLeaveMarks (first_records k s ++ (stopped_front_of (due_pieces s p.now) m.outcomes ++ (m.begun ++ rec.Fault count ∷ [])))
stops_marks p k s count added m none =
    let rows : List Row = due_pieces s p.now in
    all_append LeavesMarks (first_records k s) _ (first_marks k s)
    (all_append LeavesMarks (stopped_front_of rows m.outcomes) _ (leave_marks (stopped_front_of rows m.outcomes) (stopped_leaves_syncs rows m.outcomes))
    (subst (λ begun. AllLeaveMarks (begun ++ rec.Fault count ∷ [])) (sym none) (tt, tt)))

-- where a sync is asked for
asks_of : (p : Permit) (s : State) (i : Intent) → (i ≡ Drain → 0 < s.filled) → is_asked (way_of i) ≡ true → IntentHasCause p s i
asks_of p s Sync some h = AskLaws.IntentHasCause.asked refl
asks_of p s SyncBegin some h = AskLaws.IntentHasCause.asked refl
asks_of p s Drain some h = AskLaws.IntentHasCause.drained refl (some refl)
asks_of p s _ some h = no_truth (sym h)

module _ (serial cursor : ℕ) (clean in_parts : Bool) where
  -- of a flush by which none is asked for
  due_by : (p : Permit) (s : State) (added : List Rec) (b : Bool) (m : MaySyncBehind p WhereDue s added) → needs_whole WhereDue (at_first WhereDue s) ≡ b
      → IsAmong (rec.SyncBegun serial cursor clean in_parts) added → b ≡ true
  due_by p s added true m is among = refl
  due_by p s added false m is among = none_begun serial cursor clean in_parts added _ m.is (goes_marks p WhereDue s added m is) among

  due_of : (p : Permit) (s : State) (added : List Rec) (f : End) → DoesSync p WhereDue s added f → IsAmong (rec.SyncBegun serial cursor clean in_parts) added
      → (0 < s.filled) × (needs_whole WhereDue (at_first WhereDue s) ≡ true)
  due_of p s added f (Syncing.DoesSync.goes m) among = (m.filled, due_by p s added (needs_whole WhereDue (at_first WhereDue s)) m refl among)
  due_of p s added f (Syncing.DoesSync.stops count m) among = elim (stops_by m.stops) [
    | inl whole ↦ (m.filled, whole)
    | inr none ↦ none_begun serial cursor clean in_parts added _ m.is (stops_marks p WhereDue s count added m none) among
  ]
  due_of p s added f (Syncing.DoesSync.empty m) among = no_truth (sym m.asked)
  due_of p s added f (Syncing.DoesSync.empty_stops count m) among = no_truth (sym m.asked)
  due_of p s added f (Syncing.DoesSync.stays count can first c) among = none_begun serial cursor clean in_parts added _ c.is (tt, tt) among
  due_of p s added f (Syncing.DoesSync.exhausted may high is) among = none_begun serial cursor clean in_parts added _ is tt among
  due_of p s added f (Syncing.DoesSync.runs n on quiet parts runs is) among = no_truth (sym parts)

  -- what is asked begins with a flush, with a sync behind it where that is due, or it asks for a sync
  cause_by : (p : Permit) (s : State) (i : Intent) (added : List Rec) (f : End) (k : Syncing) → way_of i ≡ k → flushes_first s i ≡ true → (is_asked (way_of i) ≡ true → IntentHasCause p s i) → DoesSync p k s added f
      → IsAmong (rec.SyncBegun serial cursor clean in_parts) added → IntentHasCause p s i
  cause_by p s i added f Syncing.WhereDue way first asks d among = let due = due_of p s added f d among in AskLaws.IntentHasCause.due way first due.0 due.1
  cause_by p s i added f Syncing.AtOnce way first asks d among = asks (ap is_asked way)
  cause_by p s i added f Syncing.InParts way first asks d among = asks (ap is_asked way)

  caused : (p : Permit) (s : State) (i : Intent) (added : List Rec) (e : End) → Grouped p s i added e
      → IsAmong (rec.SyncBegun serial cursor clean in_parts) added → IntentHasCause p s i
  caused p s i added e (Grouped.Grouped.plain h) among = absurd (among_holds IsPlain (rec.SyncBegun serial cursor clean in_parts) added h among).1
  caused p s i added e (Grouped.Grouped.inserts unmarked h) among = absurd (among_holds IsOfInsert (rec.SyncBegun serial cursor clean in_parts) added h among)
  caused p s i added e (Grouped.Grouped.flushes off h) among = absurd (among_holds LeavesSyncs (rec.SyncBegun serial cursor clean in_parts) added h among)
  caused p s i added e (Grouped.Grouped.syncs f first some d) among = cause_by p s i added f (way_of i) refl first (asks_of p s i some) d among
  caused p s i added e (Grouped.Grouped.ends on h x) among = absurd (among_holds IsEnding (rec.SyncBegun serial cursor clean in_parts) added h among)
  caused p s i added e (Grouped.Grouped.cleans is d) among = AskLaws.IntentHasCause.asked (ap asks_sync is)
  caused p s i added e (Grouped.Grouped.unmarks t u) among = AskLaws.IntentHasCause.marked t (must_of u)

pub sync_is_due_or_asked : (p : Permit) (s : State) (i : Intent) (added : List Rec) (e : End) (serial cursor : ℕ) (clean in_parts : Bool)
    → Does p s i added e → IsAmong (rec.SyncBegun serial cursor clean in_parts) added → IntentHasCause p s i
sync_is_due_or_asked p s i added e serial cursor clean in_parts d among = caused serial cursor clean in_parts p s i added e (grouped p s i added e d) among
