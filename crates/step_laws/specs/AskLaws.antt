-- Which groups of records tell of syncs: where these are due or asked for, what stands before the next buffer, and what a
-- clean mark holds back (directory syncs: Apache Traffic Server guide, Cache Architecture).
use Rattle.std.specs.Prelude.{ℕ, ◌≡◌, ◌<◌, Bool, true, false, List, ◌∷◌, ◌++◌, Option, Some, None}
use Rattle.std.specs.List.{AllByRecursion}
use Rattle.device_log.specs.Calls.{Call}
use Rattle.cache_model.specs.declared.record.Rec.{Rec}
use Rattle.cache_model.specs.declared.record.Rec.TheVariants as rec
use Rattle.cache_model.specs.State.{State, Mark, after_all, cursor_next, floor_next, nothing_yet, AllAlong}
use Rattle.cache_model.specs.Permit.{Permit, Setting, IsAmong, Intent, Flush, Sync, SyncBegin, SyncStep, Drain, CleanSync, Fragment, Finish, Reason, End, Stays, Done, Fails}
use Rattle.cache_model.specs.Syncing.{Syncing, AtOnce, InParts, WhereDue, at_first, ends_first, is_due_now, is_in_parts, is_out_of_reach, must_unmark, needs_sync, needs_whole, next_serial}
use Rattle.cache_model.specs.Outcomes.{began_record}
use Rattle.cache_model.specs.ToRead.{flushes_first}
use Rattle.cache_model.specs.Legal.{Course, Does, IsLegal, IsStep}

-- ---- a stripe that does not sync

-- the record tells of a sync
abbrev pub is_of_sync : Rec → Bool
is_of_sync (rec.SyncBegun serial cursor clean in_parts) = true
is_of_sync (rec.SyncDone serial) = true
is_of_sync _ = false

-- none of these records does
abbrev pub TellNoSync : List Rec → Type 0
TellNoSync added = AllByRecursion (λ (r : Rec). is_of_sync r ≡ false) added

-- where the stripe does not sync, no group tells of one
abbrev pub NoSyncIsRecorded : Type 0
NoSyncIsRecorded = (p : Permit) (s : State) (i : Intent) (added : List Rec) (e : End) → p.syncs ≡ false → Does p s i added e
    → TellNoSync added

-- and no step does
abbrev pub StepsTellNoSync : Type 0
StepsTellNoSync = (p : Permit) (s : State) (intents : List Intent) (added : List Rec) (why : Option Reason)
    → p.syncs ≡ false → IsStep p s intents added why → TellNoSync added

-- ---- a clean mark

-- what is asked places a piece
abbrev pub places : Intent → Bool
places (Fragment put index payload) = true
places (Finish put fragments) = true
places _ = false

-- the record places a piece, or its copy
abbrev pub is_placement : Rec → Bool
is_placement (rec.Placed piece place blocks digest pin) = true
is_placement (rec.Moved piece from place digest) = true
is_placement _ = false

-- while a clean copy may be found, nothing is placed in an empty buffer
abbrev pub MarkedPlacesNothing : Type 0
MarkedPlacesNothing = (p : Permit) (s : State) (i : Intent) (added : List Rec) (e : End) → p.syncs ≡ true → s.marked ≡ true → s.filled ≡ 0
    → Does p s i added e → AllByRecursion (λ (r : Rec). is_placement r ≡ false) added

-- a piece is not placed, and where it is still to be placed the mark is gone
abbrev pub IsHeldBack : State → End → Type 0
IsHeldBack after Stays = after.marked ≡ false
IsHeldBack after Done = ⊥
IsHeldBack after (Fails why) = Unit {0}

-- what is to be placed then waits until the mark is taken back, or fails
abbrev pub MarkIsTakenBack : Type 0
MarkIsTakenBack = (p : Permit) (s : State) (i : Intent) (added : List Rec) (e : End) → places i ≡ true → p.syncs ≡ true → s.marked ≡ true
    → s.filled ≡ 0 → Does p s i added e → IsHeldBack (after_all s added) e

-- the buffer is empty while a clean copy may be found
abbrev pub IsMarkedEmpty : State → Type 0
IsMarkedEmpty s = s.marked ≡ true → s.filled ≡ 0

-- each group of a stripe that syncs leaves it so
abbrev pub MarkedStaysEmpty : Type 0
MarkedStaysEmpty = (p : Permit) (s : State) (i : Intent) (added : List Rec) (e : End) → p.syncs ≡ true → IsMarkedEmpty s → Does p s i added e
    → IsMarkedEmpty (after_all s added)

-- and so it is behind each legal chronicle of one
abbrev pub MarkedIsEmpty : Type 0
MarkedIsEmpty = (setting : Setting) (past : List Call) (courses : List Course) (recs : List Rec) → setting.syncs ≡ true → IsLegal setting past courses recs
    → IsMarkedEmpty (after_all nothing_yet recs)

-- ---- before the next buffer begins

-- how the buffer is written out for what is asked
abbrev pub way_of : Intent → Syncing
way_of Sync = AtOnce
way_of SyncBegin = InParts
way_of Drain = AtOnce
way_of _ = WhereDue

-- where a sync is asked for, or the buffer ends out of reach, the next buffer begins only in a group that first ends the
-- sync in parts
abbrev pub EndedFirst : Type 0
EndedFirst = (p : Permit) (s : State) (i : Intent) (added : List Rec) (e : End) (serial cursor floor : ℕ) → p.syncs ≡ true
    → s.running ≡ Some serial → ends_first (way_of i) s ≡ true → Does p s i added e → IsAmong (rec.Began cursor floor) added
    → (behind : List Rec) × (added ≡ rec.SyncDone serial ∷ behind)

-- a sync with the next serial and the cursor of the next buffer begins and ends right before that buffer
pub record SyncsBefore (s : State) (added : List Rec) : Type 0 where
  pub before : List Rec
  pub behind : List Rec
  pub is : added ≡ before
      ++ rec.SyncBegun (next_serial s) (cursor_next s) false false ∷ rec.SyncDone (next_serial s)
      ∷ rec.Began (cursor_next s) (floor_next s) ∷ behind

-- where a whole sync is due or asked for behind the buffer, the next buffer begins only once that sync went through
abbrev pub DueIsSynced : Type 0
DueIsSynced = (p : Permit) (s : State) (i : Intent) (added : List Rec) (e : End) (cursor floor : ℕ) → p.syncs ≡ true
    → is_in_parts (way_of i) ≡ false → needs_whole (way_of i) (at_first (way_of i) s) ≡ true → Does p s i added e
    → IsAmong (rec.Began cursor floor) added → SyncsBefore s added

-- a flush of a buffer that is not empty is done only where the next buffer begins
abbrev pub FlushBegins : Type 0
FlushBegins = (p : Permit) (s : State) (added : List Rec) → 0 < s.filled → Does p s Flush added Done → IsAmong (began_record s) added

-- so it is of one for room, where no mark is to be taken back
abbrev pub RoomBegins : Type 0
RoomBegins = (p : Permit) (s : State) (i : Intent) (added : List Rec) → places i ≡ true → must_unmark p s ≡ false
    → Does p s i added Stays → IsAmong (began_record s) added

-- the record begins a buffer
abbrev pub begins_next_buffer : Rec → Bool
begins_next_buffer (rec.Began cursor floor) = true
begins_next_buffer _ = false

-- a sync ends, and no buffer begins before that
pub record EndsBefore (serial : ℕ) (added : List Rec) : Type 0 where
  pub before : List Rec
  pub behind : List Rec
  pub is : added ≡ before ++ rec.SyncDone serial ∷ behind
  pub first : AllByRecursion (λ (r : Rec). begins_next_buffer r ≡ false) before

-- where a sync is due or asked for behind the buffer, the sync in parts that goes on ends before the next buffer begins
abbrev pub DueIsEnded : Type 0
DueIsEnded = (p : Permit) (s : State) (i : Intent) (added : List Rec) (e : End) (serial cursor floor : ℕ) → p.syncs ≡ true
    → s.running ≡ Some serial → needs_sync (way_of i) s ≡ true → Does p s i added e → IsAmong (rec.Began cursor floor) added
    → EndsBefore serial added

-- ---- what is asked for is made

-- a sync begins that has the next serial and the cursor of the buffer behind these records, and goes through; it is the last
-- one that finished, and none goes on
pub record IsSyncMade (s : State) (clean : Bool) (added : List Rec) : Type 0 where
  pub before : List Rec
  pub behind : List Rec
  pub is : added ≡ before
      ++ rec.SyncBegun (next_serial s) (after_all s added).cursor clean false ∷ rec.SyncDone (next_serial s) ∷ behind
  pub finished : (after_all s added).finished ≡ next_serial s
  pub over : (after_all s added).running ≡ None

-- one begins that later steps write, and goes on
pub record IsSyncBegun (s : State) (added : List Rec) : Type 0 where
  pub before : List Rec
  pub behind : List Rec
  pub is : added ≡ before ++ rec.SyncBegun (next_serial s) (after_all s added).cursor false true ∷ behind
  pub running : (after_all s added).running ≡ Some (next_serial s)

-- so it is where that is asked for, also of an empty buffer; a drain syncs where the buffer is not empty
abbrev pub IsSynced : State → Intent → List Rec → Type 0
IsSynced s Sync added = IsSyncMade s false added
IsSynced s SyncBegin added = IsSyncBegun s added
IsSynced s CleanSync added = IsSyncMade s true added
IsSynced s Drain added = 0 < s.filled → IsSyncMade s false added
IsSynced s _ added = Unit {0}

-- what is done was so
abbrev pub AskedIsSynced : Type 0
AskedIsSynced = (p : Permit) (s : State) (i : Intent) (added : List Rec) → Does p s i added Done → IsSynced s i added

-- ---- why a sync begins

-- a sync is asked for, whatever the buffer has
abbrev pub asks_sync : Intent → Bool
asks_sync Sync = true
asks_sync SyncBegin = true
asks_sync CleanSync = true
asks_sync _ = false

-- it is asked for, or a buffer that is not empty is drained; a clean mark is taken back before a piece is placed; or what is
-- asked begins with a flush of a buffer that is not empty, and a sync is due behind that, also once the one in parts is ended
pub data IntentHasCause (p : Permit) (s : State) (i : Intent) : Type 0 where
  asked : asks_sync i ≡ true → IntentHasCause p s i
  drained : i ≡ Drain → 0 < s.filled → IntentHasCause p s i
  marked : places i ≡ true → must_unmark p s ≡ true → IntentHasCause p s i
  due : way_of i ≡ WhereDue → flushes_first s i ≡ true → 0 < s.filled → needs_whole WhereDue (at_first WhereDue s) ≡ true
      → IntentHasCause p s i

-- no sync begins without a cause
abbrev pub SyncIsDueOrAsked : Type 0
SyncIsDueOrAsked = (p : Permit) (s : State) (i : Intent) (added : List Rec) (e : End) (serial cursor : ℕ) (clean in_parts : Bool)
    → Does p s i added e → IsAmong (rec.SyncBegun serial cursor clean in_parts) added → IntentHasCause p s i

-- ---- why a sync ends

-- one is asked for, or the last part of one; the stripe is drained, also of nothing; a clean mark is taken back before a piece
-- is placed; or what is asked begins with a flush of a buffer that is not empty, and a sync is due behind that, or the buffer
-- ends out of reach
pub data HasEndCause (p : Permit) (s : State) (i : Intent) : Type 0 where
  asked : asks_sync i ≡ true → HasEndCause p s i
  last_part : i ≡ SyncStep true → HasEndCause p s i
  drained : i ≡ Drain → HasEndCause p s i
  marked : places i ≡ true → must_unmark p s ≡ true → HasEndCause p s i
  due : way_of i ≡ WhereDue → flushes_first s i ≡ true → 0 < s.filled → is_due_now s ≡ true → HasEndCause p s i
  out_of_reach : way_of i ≡ WhereDue → flushes_first s i ≡ true → 0 < s.filled → is_out_of_reach s ≡ true → HasEndCause p s i

-- no sync ends without such a cause, be it one in parts or one that begins in the same group
abbrev pub SyncEndsWhereDue : Type 0
SyncEndsWhereDue = (p : Permit) (s : State) (i : Intent) (added : List Rec) (e : End) (serial : ℕ)
    → Does p s i added e → IsAmong (rec.SyncDone serial) added → HasEndCause p s i

-- ---- serials

-- a sync that begins takes the next serial
abbrev pub IsNextSerial : State → Rec → Type 0
IsNextSerial s (rec.SyncBegun serial cursor clean in_parts) = serial ≡ next_serial s
IsNextSerial s _ = Unit {0}

-- so does each sync of a group, at the state before its record
abbrev pub SerialsFollow : Type 0
SerialsFollow = (p : Permit) (s : State) (i : Intent) (added : List Rec) (e : End) → Does p s i added e → AllAlong IsNextSerial s added

-- the next serial is above all serials of the session
abbrev pub IsHeadGreatest : State → Type 0
IsHeadGreatest s = AllByRecursion (λ (m : Mark). m.serial < next_serial s) s.marks

-- each group leaves it so
abbrev pub SerialsRise : Type 0
SerialsRise = (p : Permit) (s : State) (i : Intent) (added : List Rec) (e : End) → IsHeadGreatest s → Does p s i added e
    → IsHeadGreatest (after_all s added)

-- and so it is behind each legal chronicle
abbrev pub LegalSerialsRise : Type 0
LegalSerialsRise = (setting : Setting) (past : List Call) (courses : List Course) (recs : List Rec) → IsLegal setting past courses recs
    → IsHeadGreatest (after_all nothing_yet recs)
