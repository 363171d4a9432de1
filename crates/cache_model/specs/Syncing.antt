-- Syncs within a step: which of them are due or asked for, the records that they add, and where a device stops them
-- (directory syncs: Apache Traffic Server guide, Cache Architecture).
use Rattle.std.specs.Prelude.{ℕ, ◌≡◌, ◌+◌, ◌<◌, ◌≤◌, Bool, true, false, ◌&&◌, ◌||◌, nat_le, nat_lt, if◌then◌else◌, List, [], ◌∷◌, ◌++◌, Some, None, option_map, option_to_list, is_some, slice_get, unwrap_or}
use Rattle.tape_base.specs.Geometry.{budget_of}
use Rattle.tape_base.specs.Place.{reach_of}
use Rattle.write_cursor.specs.Plan.{is_sync_due}
use Rattle.cache_model.specs.declared.record.Rec.{Rec}
use Rattle.cache_model.specs.declared.record.Rec.TheVariants as rec
use Rattle.cache_model.specs.State.{State, Mark, after_all, cursor_next, synced_cursor}
use Rattle.cache_model.specs.Permit.{Permit, Exhausted, Faulted, SyncRuns, NoSync, StillMoving, End, Stays, Done, Fails}
use Rattle.cache_model.specs.Given.{CountsStop, StandsWritten}
use Rattle.cache_model.specs.Due.{due_pieces}
use Rattle.cache_model.specs.Outcomes.{AreOutcomes, Outcome, flush_tail, front_of, stopped_front_of}
use Rattle.cache_model.specs.Room.{limit, is_flush_exhausted}

-- how the buffer is to be written out: with a sync where one is due, with a sync that is asked for, or with one that
-- later steps write in parts
pub data Syncing : Type 0 where
  WhereDue : Syncing
  AtOnce : Syncing
  InParts : Syncing

-- a sync is asked for
abbrev pub is_asked : Syncing → Bool
is_asked WhereDue = false
is_asked AtOnce = true
is_asked InParts = true

-- later steps write it
abbrev pub is_in_parts : Syncing → Bool
is_in_parts InParts = true
is_in_parts _ = false

-- ---- what is due

-- the serial of the next sync: none that was begun has it
abbrev pub next_serial : State → ℕ
next_serial s = unwrap_or (option_map (λ (m : Mark). m.serial) (slice_get s.marks 0)) 0 + 1

-- a sync is due before the next buffer begins
abbrev pub is_due_now : State → Bool
is_due_now s = is_sync_due s.geometry s.cursor (synced_cursor s) s.filled

-- the buffer ends above the reach of the last sync that finished
abbrev pub is_out_of_reach : State → Bool
is_out_of_reach s = nat_lt (reach_of s.geometry (synced_cursor s)) (s.cursor + s.geometry.agg)

-- ---- the records of syncs

-- the sync in parts that goes on is ended, if there is one
abbrev pub ended_records : State → List Rec
ended_records s = option_to_list (option_map rec.SyncDone s.running)

-- behind that
abbrev pub once_ended : State → State
once_ended s = after_all s (ended_records s)

-- before anything else it is ended where a sync is asked for, or the buffer may not be written before
abbrev pub ends_first : Syncing → State → Bool
ends_first k s = is_asked k || is_out_of_reach s

abbrev pub first_records : Syncing → State → List Rec
first_records k s = if ends_first k s then ended_records s else []

-- behind that
abbrev pub at_first : Syncing → State → State
at_first k s = after_all s (first_records k s)

-- behind the buffer a sync is asked for or due
abbrev pub needs_sync : Syncing → State → Bool
needs_sync k s = is_asked k || is_due_now s

-- and is so still once the one in parts has ended
abbrev pub needs_whole : Syncing → State → Bool
needs_whole k s = needs_sync k s && (is_asked k || is_due_now (once_ended s))

-- a sync takes its image
abbrev pub begun_record : State → ℕ → Bool → Bool → Rec
begun_record s cursor clean in_parts = rec.SyncBegun (next_serial s) cursor clean in_parts

-- a sync with this cursor, with its end where no later step writes it
abbrev pub sync_records : Syncing → State → ℕ → List Rec
sync_records k s cursor = begun_record s cursor false (is_in_parts k) ∷ (if is_in_parts k then [] else rec.SyncDone (next_serial s) ∷ [])

-- the syncs behind the buffer: the one in parts is ended where one is needed, and a whole one follows where it still is
abbrev pub behind_records : Syncing → State → List Rec
behind_records k s =
    (if needs_sync k s then ended_records s else [])
    ++ (if needs_whole k s then sync_records k s (cursor_next s) else [])

-- the copies of the flush that is to be made, or the serial of the next sync, would reach the limit; an empty buffer is not
-- flushed
abbrev pub is_sync_exhausted : Syncing → State → Bool
is_sync_exhausted k s =
    (nat_lt 0 s.filled && is_flush_exhausted s) || (needs_whole k (at_first k s) && nat_le limit (next_serial s))

-- ---- a buffer that is written out

-- it may be tried by a stripe that syncs: no vector is pending, no other sync is in the way of one in parts, and there is
-- something to be written or a sync to be made
pub record MayTrySync (p : Permit) (k : Syncing) (s : State) : Type 0 where
  pub syncs : p.syncs ≡ true
  pub quiet : s.pending ≡ None
  pub free : is_in_parts k ≡ true → s.running ≡ None
  pub some : is_asked k ≡ false → 0 < s.filled

-- and the limit is not reached
pub record CanSync (p : Permit) (k : Syncing) (s : State) : Type 0 where
  pub may : MayTrySync p k s
  pub below : is_sync_exhausted k s ≡ false

-- the buffer stands as the device took it, the syncs behind it go through, and the next buffer begins
pub record MaySyncBehind (p : Permit) (k : Syncing) (s : State) (added : List Rec) : Type 0 where
  pub outcomes : List Outcome
  pub can : CanSync p k s
  pub filled : 0 < s.filled
  pub takes : StandsWritten p s
  pub are : AreOutcomes p s (budget_of s.geometry) (due_pieces s p.now) outcomes
  pub is : added ≡ first_records k s ++ (front_of (due_pieces s p.now) outcomes ++ (behind_records k (at_first k s) ++ flush_tail s (due_pieces s p.now) outcomes))

-- behind the records of the reads the device refuses to take the buffer, or stops a sync; last come the records of syncs up
-- to there
pub data StopsBehind (p : Permit) (k : Syncing) (s : State) (front : List Rec) (count : ℕ) : List Rec → Type 0 where
  buffer : CountsStop p (after_all s front) count → StopsBehind p k s front count []
  -- the sync in parts was to be ended
  ended : StandsWritten p s → needs_sync k s ≡ true → is_some s.running ≡ true → CountsStop p (after_all s front) count → StopsBehind p k s front count []
  -- a whole one was begun
  whole : StandsWritten p s → needs_whole k s ≡ true → CountsStop p (after_all s front) count
      → StopsBehind p k s front count (ended_records s ++ begun_record s (cursor_next s) false false ∷ [])

-- a flush that stops so
pub record MayStopSync (p : Permit) (k : Syncing) (s : State) (count : ℕ) (added : List Rec) : Type 0 where
  pub outcomes : List Outcome
  pub begun : List Rec
  pub can : CanSync p k s
  pub filled : 0 < s.filled
  pub are : AreOutcomes p s (budget_of s.geometry) (due_pieces s p.now) outcomes
  pub stops : StopsBehind p k (at_first k s) (stopped_front_of (due_pieces s p.now) outcomes) count begun
  pub is : added ≡ first_records k s ++ (stopped_front_of (due_pieces s p.now) outcomes ++ (begun ++ rec.Fault count ∷ []))

-- the sync in parts cannot be ended: its next part begins anew
pub record CannotEnd (p : Permit) (s : State) (count : ℕ) (added : List Rec) : Type 0 where
  pub runs : is_some s.running ≡ true
  pub counts : CountsStop p s count
  pub is : added ≡ rec.Fault count ∷ []

-- ---- a sync of an empty buffer

-- the one in parts is ended, and another one follows
pub record MaySyncEmpty (p : Permit) (k : Syncing) (s : State) (added : List Rec) : Type 0 where
  pub can : CanSync p k s
  pub asked : is_asked k ≡ true
  pub empty : s.filled ≡ 0
  pub is : added ≡ ended_records s ++ sync_records k s s.cursor

-- the device stops it once it was begun
pub record MayStopEmpty (p : Permit) (k : Syncing) (s : State) (count : ℕ) (added : List Rec) : Type 0 where
  pub can : CanSync p k s
  pub asked : is_asked k ≡ true
  pub empty : s.filled ≡ 0
  pub counts : CountsStop p s count
  pub is : added ≡ ended_records s ++ begun_record s s.cursor false false ∷ rec.Fault count ∷ []

-- ---- what a stripe that syncs does of a buffer

-- a flush, a sync, or the beginning of one in parts
pub data DoesSync (p : Permit) (k : Syncing) (s : State) (added : List Rec) : End → Type 0 where
  goes : MaySyncBehind p k s added → DoesSync p k s added Done
  stops : (count : ℕ) → MayStopSync p k s count added → DoesSync p k s added (Fails (Faulted count))
  empty : MaySyncEmpty p k s added → DoesSync p k s added Done
  empty_stops : (count : ℕ) → MayStopEmpty p k s count added → DoesSync p k s added (Fails (Faulted count))
  stays : (count : ℕ) → CanSync p k s → ends_first k s ≡ true → CannotEnd p s count added → DoesSync p k s added (Fails (Faulted count))
  exhausted : MayTrySync p k s → is_sync_exhausted k s ≡ true → added ≡ [] → DoesSync p k s added (Fails Exhausted)
  runs : (serial : ℕ) → p.syncs ≡ true → s.pending ≡ None → is_in_parts k ≡ true → s.running ≡ Some serial → added ≡ []
      → DoesSync p k s added (Fails (SyncRuns serial))

-- a part of a sync is written, which may be the last one
pub data DoesSyncStep (p : Permit) (s : State) (last : Bool) (added : List Rec) : End → Type 0 where
  none : p.syncs ≡ true → s.pending ≡ None → s.running ≡ None → added ≡ [] → DoesSyncStep p s last added (Fails NoSync)
  part : p.syncs ≡ true → s.pending ≡ None → is_some s.running ≡ true → last ≡ false → added ≡ [] → DoesSyncStep p s last added Done
  ends : p.syncs ≡ true → s.pending ≡ None → is_some s.running ≡ true → last ≡ true → added ≡ ended_records s → DoesSyncStep p s last added Done
  stays : (count : ℕ) → p.syncs ≡ true → s.pending ≡ None → CannotEnd p s count added → DoesSyncStep p s last added (Fails (Faulted count))

-- ---- a clean copy

-- a clean copy may be found, so a piece may be placed only once a sync that is not clean has finished
abbrev pub must_unmark : Permit → State → Bool
must_unmark p s = p.syncs && s.marked

-- the sync in parts is ended; where the mark stands still, another one follows
abbrev pub unmark_records : State → List Rec
unmark_records s = ended_records s ++ (if (once_ended s).marked then sync_records AtOnce s s.cursor else [])

-- the serial of that one would reach the limit
abbrev pub is_unmark_exhausted : State → Bool
is_unmark_exhausted s = (once_ended s).marked && nat_le limit (next_serial s)

-- the mark has to be taken back; the buffer is empty then
pub record MustUnmark (p : Permit) (s : State) : Type 0 where
  pub must : must_unmark p s ≡ true
  pub empty : s.filled ≡ 0

-- it is taken back before a piece is placed
pub data Unmarks (p : Permit) (s : State) (added : List Rec) : End → Type 0 where
  unmarks : MustUnmark p s → is_unmark_exhausted s ≡ false → added ≡ unmark_records s → Unmarks p s added Stays
  stays : (count : ℕ) → MustUnmark p s → is_unmark_exhausted s ≡ false → CannotEnd p s count added → Unmarks p s added (Fails (Faulted count))
  stops : (count : ℕ) → MustUnmark p s → is_unmark_exhausted s ≡ false → (once_ended s).marked ≡ true → CountsStop p s count
      → added ≡ ended_records s ++ begun_record s s.cursor false false ∷ rec.Fault count ∷ [] → Unmarks p s added (Fails (Faulted count))
  exhausted : MustUnmark p s → is_unmark_exhausted s ≡ true → added ≡ [] → Unmarks p s added (Fails Exhausted)

-- a clean sync of an empty buffer; copies that stand in it refuse that, and so does a sync in parts
pub data DoesCleanSync (p : Permit) (s : State) (added : List Rec) : End → Type 0 where
  moving : p.syncs ≡ true → s.pending ≡ None → 0 < s.filled → added ≡ [] → DoesCleanSync p s added (Fails (StillMoving s.filled))
  runs : (serial : ℕ) → p.syncs ≡ true → s.pending ≡ None → s.filled ≡ 0 → s.running ≡ Some serial → added ≡ []
      → DoesCleanSync p s added (Fails (SyncRuns serial))
  syncs : p.syncs ≡ true → s.pending ≡ None → s.filled ≡ 0 → s.running ≡ None → next_serial s < limit
      → added ≡ begun_record s s.cursor true false ∷ rec.SyncDone (next_serial s) ∷ [] → DoesCleanSync p s added Done
  stops : (count : ℕ) → p.syncs ≡ true → s.pending ≡ None → s.filled ≡ 0 → s.running ≡ None → next_serial s < limit → CountsStop p s count
      → added ≡ begun_record s s.cursor true false ∷ rec.Fault count ∷ [] → DoesCleanSync p s added (Fails (Faulted count))
  exhausted : p.syncs ≡ true → s.pending ≡ None → s.filled ≡ 0 → s.running ≡ None → limit ≤ next_serial s → added ≡ []
      → DoesCleanSync p s added (Fails Exhausted)
