-- No sync ends without a cause in what is asked.
use Rattle.std.proofs.Common.{◌≡◌, ℕ, ◌<◌, ◌⊎◌, List, [], ◌∷◌, ◌++◌, refl, sym, ◌∙◌, ap, subst, inl, inr, Bool, true, false}
use Rattle.std.specs.Prelude.{if◌then◌else◌, ◌&&◌, ◌||◌}
use Rattle.std.proofs.lemmas.Bool.{and_parts}
use Rattle.cache_model.specs.declared.record.Rec.{Rec}
use Rattle.cache_model.specs.declared.record.Rec.TheVariants as rec
use Rattle.cache_model.specs.State.{State, Row, after_all, cursor_next}
use Rattle.cache_model.specs.Permit.{Permit, IsAmong, Intent, Sync, SyncBegin, Drain, End}
use Rattle.cache_model.specs.Due.{due_pieces}
use Rattle.cache_model.specs.Outcomes.{flush_tail, front_of, stopped_front_of}
use Rattle.cache_model.specs.Syncing
use Rattle.cache_model.specs.Syncing.{DoesSync, MayStopSync, MaySyncBehind, Syncing, WhereDue, at_first, behind_records, ended_records, ends_first, first_records, is_asked, is_due_now, is_out_of_reach, needs_sync, once_ended, sync_records}
use Rattle.cache_model.specs.Legal.{Does}
use Rattle.cache_model.specs.ToRead.{flushes_first}
use Rattle.cache_model.proofs.Found.{no_truth}
use Rattle.cache_model.proofs.Steps.{all_append}
use Rattle.cache_model.proofs.Syncing.{AllLeaveSyncs, LeavesSyncs, front_leaves_syncs, tail_leaves_syncs}
use Rattle.step_laws.specs.AskLaws
use Rattle.step_laws.specs.AskLaws.{HasEndCause, asks_sync, way_of}
use Rattle.session_laws.proofs.Asks.{among_holds}
use Rattle.session_laws.proofs.AskSyncs.{stops_by}
use Rattle.step_laws.proofs.Grouped
use Rattle.step_laws.proofs.Grouped.{Grouped, IsOfInsert, IsPlain, grouped, stopped_leaves_syncs}
use Rattle.step_laws.proofs.Unsynced.{must_of}

-- ---- where none is due

-- within reach none ends first
none_first : (k : Syncing) (s : State) → ends_first k s ≡ false → first_records k s ≡ []
none_first k s first = ap (λ b. if b then ended_records s else []) first

first_silent : (k : Syncing) (s : State) → ends_first k s ≡ false → AllLeaveSyncs (first_records k s)
first_silent k s first = subst AllLeaveSyncs (sym (none_first k s first)) tt

-- and none behind the buffer
behind_silent : (k : Syncing) (s : State) → needs_sync k s ≡ false → AllLeaveSyncs (behind_records k s)
behind_silent k s none =
    subst (λ b. AllLeaveSyncs ((if b then ended_records s else []) ++ (if b && (is_asked k || is_due_now (once_ended s)) then sync_records k s (cursor_next s) else []))) (sym none) tt

goes_silent : (p : Permit) (k : Syncing) (s : State) (added : List Rec) (m : MaySyncBehind p k s added) → ends_first k s ≡ false → needs_sync k (at_first k s) ≡ false
    → AllLeaveSyncs (first_records k s ++ (front_of (due_pieces s p.now) m.outcomes ++ (behind_records k (at_first k s) ++ flush_tail s (due_pieces s p.now) m.outcomes)))
goes_silent p k s added m first none =
    let rows : List Row = due_pieces s p.now in
    all_append LeavesSyncs (first_records k s) _ (first_silent k s first)
    (all_append LeavesSyncs (front_of rows m.outcomes) _ (front_leaves_syncs rows m.outcomes)
    (all_append LeavesSyncs (behind_records k (at_first k s)) _ (behind_silent k (at_first k s) none) (tail_leaves_syncs s rows m.outcomes)))

stops_silent : (p : Permit) (k : Syncing) (s : State) (count : ℕ) (added : List Rec) (m : MayStopSync p k s count added) → ends_first k s ≡ false → m.begun ≡ []
    → AllLeaveSyncs (first_records k s ++ (stopped_front_of (due_pieces s p.now) m.outcomes ++ (m.begun ++ rec.Fault count ∷ [])))
stops_silent p k s count added m first none =
    let rows : List Row = due_pieces s p.now in
    all_append LeavesSyncs (first_records k s) _ (first_silent k s first)
    (all_append LeavesSyncs (stopped_front_of rows m.outcomes) _ (stopped_leaves_syncs rows m.outcomes)
    (subst (λ begun. AllLeaveSyncs (begun ++ rec.Fault count ∷ [])) (sym none) (tt, tt)))

-- a sync is due behind the buffer, or that ends out of reach
abbrev IsDueOrFar : State → Type 0
IsDueOrFar s = (is_due_now s ≡ true) ⊎ (is_out_of_reach s ≡ true)

-- within reach one that is due behind what ends first is due as it stands
due_here : (s : State) → ends_first WhereDue s ≡ false → needs_sync WhereDue (at_first WhereDue s) ≡ true → is_due_now s ≡ true
due_here s first needed =
    let here : at_first WhereDue s ≡ s = ap (after_all s) (none_first WhereDue s first) in
    sym (ap (needs_sync WhereDue) here) ∙ needed

-- ---- a sync that ends

asked_ends : (p : Permit) (s : State) (i : Intent) → is_asked (way_of i) ≡ true → HasEndCause p s i
asked_ends p s Sync h = AskLaws.HasEndCause.asked refl
asked_ends p s SyncBegin h = AskLaws.HasEndCause.asked refl
asked_ends p s Drain h = AskLaws.HasEndCause.drained refl
asked_ends p s _ h = no_truth (sym h)

none_ended : {X : Type 0} (serial : ℕ) (added other : List Rec) → added ≡ other → AllLeaveSyncs other → IsAmong (rec.SyncDone serial) added → X
none_ended serial added other is h among = absurd (among_holds LeavesSyncs (rec.SyncDone serial) other h (subst (IsAmong (rec.SyncDone serial)) is among))

module _ (serial : ℕ) where
  -- of a flush by which none is asked for
  goes_by : (p : Permit) (s : State) (added : List Rec) (b c : Bool) → ends_first WhereDue s ≡ b → needs_sync WhereDue (at_first WhereDue s) ≡ c → MaySyncBehind p WhereDue s added
      → IsAmong (rec.SyncDone serial) added → IsDueOrFar s
  goes_by p s added true c first needed m among = inr first
  goes_by p s added false true first needed m among = inl (due_here s first needed)
  goes_by p s added false false first needed m among = none_ended serial added _ m.is (goes_silent p WhereDue s added m first needed) among

  stopped_by : (p : Permit) (s : State) (count : ℕ) (added : List Rec) (b : Bool) → ends_first WhereDue s ≡ b → MayStopSync p WhereDue s count added
      → IsAmong (rec.SyncDone serial) added → IsDueOrFar s
  stopped_by p s count added true first m among = inr first
  stopped_by p s count added false first m among = elim (stops_by m.stops) [
    | inl whole ↦ inl (due_here s first (and_parts (needs_sync WhereDue (at_first WhereDue s)) (is_asked WhereDue || is_due_now (once_ended (at_first WhereDue s))) whole).0)
    | inr none ↦ none_ended serial added _ m.is (stops_silent p WhereDue s count added m first none) among
  ]

  due_of : (p : Permit) (s : State) (added : List Rec) (f : End) → DoesSync p WhereDue s added f → IsAmong (rec.SyncDone serial) added → (0 < s.filled) × IsDueOrFar s
  due_of p s added f (Syncing.DoesSync.goes m) among = (m.filled, goes_by p s added (ends_first WhereDue s) (needs_sync WhereDue (at_first WhereDue s)) refl refl m among)
  due_of p s added f (Syncing.DoesSync.stops count m) among = (m.filled, stopped_by p s count added (ends_first WhereDue s) refl m among)
  due_of p s added f (Syncing.DoesSync.empty m) among = no_truth (sym m.asked)
  due_of p s added f (Syncing.DoesSync.empty_stops count m) among = no_truth (sym m.asked)
  due_of p s added f (Syncing.DoesSync.stays count can first c) among = none_ended serial added _ c.is (tt, tt) among
  due_of p s added f (Syncing.DoesSync.exhausted may high is) among = none_ended serial added _ is tt among
  due_of p s added f (Syncing.DoesSync.runs n on quiet parts runs is) among = no_truth (sym parts)

  -- what is asked begins with a flush, with a sync behind it where that is due, or it asks for a sync
  cause_by : (p : Permit) (s : State) (i : Intent) (added : List Rec) (f : End) (k : Syncing) → way_of i ≡ k → flushes_first s i ≡ true → DoesSync p k s added f
      → IsAmong (rec.SyncDone serial) added → HasEndCause p s i
  cause_by p s i added f Syncing.WhereDue way first d among =
      let due = due_of p s added f d among in
      elim due.1 [ inl now ↦ AskLaws.HasEndCause.due way first due.0 now | inr far ↦ AskLaws.HasEndCause.out_of_reach way first due.0 far ]
  cause_by p s i added f Syncing.AtOnce way first d among = asked_ends p s i (ap is_asked way)
  cause_by p s i added f Syncing.InParts way first d among = asked_ends p s i (ap is_asked way)

  caused : (p : Permit) (s : State) (i : Intent) (added : List Rec) (e : End) → Grouped p s i added e → IsAmong (rec.SyncDone serial) added → HasEndCause p s i
  caused p s i added e (Grouped.Grouped.plain h) among = absurd (among_holds IsPlain (rec.SyncDone serial) added h among).1
  caused p s i added e (Grouped.Grouped.inserts unmarked h) among = absurd (among_holds IsOfInsert (rec.SyncDone serial) added h among)
  caused p s i added e (Grouped.Grouped.flushes off h) among = absurd (among_holds LeavesSyncs (rec.SyncDone serial) added h among)
  caused p s i added e (Grouped.Grouped.syncs f first some d) among = cause_by p s i added f (way_of i) refl first d among
  caused p s i added e (Grouped.Grouped.ends on h (inl none)) among = absurd (among_holds LeavesSyncs (rec.SyncDone serial) added none among)
  caused p s i added e (Grouped.Grouped.ends on h (inr (inl drain))) among = AskLaws.HasEndCause.drained drain
  caused p s i added e (Grouped.Grouped.ends on h (inr (inr last))) among = AskLaws.HasEndCause.last_part last
  caused p s i added e (Grouped.Grouped.cleans is d) among = AskLaws.HasEndCause.asked (ap asks_sync is)
  caused p s i added e (Grouped.Grouped.unmarks t u) among = AskLaws.HasEndCause.marked t (must_of u)

pub sync_ends_where_due : (p : Permit) (s : State) (i : Intent) (added : List Rec) (e : End) (serial : ℕ)
    → Does p s i added e → IsAmong (rec.SyncDone serial) added → HasEndCause p s i
sync_ends_where_due p s i added e serial d among = caused serial p s i added e (grouped p s i added e d) among
