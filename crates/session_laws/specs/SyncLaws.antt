-- What syncs hold, which of them may be found, and what an opening takes up: the definitions in the subject's sentences.
use Rattle.std.specs.Prelude.{ℕ, ◌≡◌, ◌≤◌, ◌==◌, ◌-◌, nat_le, Bool, true, false, List, ◌∷◌, Some, None, filter}
use Rattle.std.specs.List.{AllByRecursion}
use Rattle.tape_base.specs.declared.geometries.Geometry.{Geometry}
use Rattle.tape_base.specs.declared.pieces.PieceId.{PieceId}
use Rattle.cache_model.specs.declared.record.Rec.{Rec}
use Rattle.cache_model.specs.declared.record.Rec.TheVariants as rec
use Rattle.cache_model.specs.Opening.{Opening}
use Rattle.cache_model.specs.Openings.{opened_records}
use Rattle.cache_model.specs.Verdict.{lookup_verdict}
use Rattle.cache_model.specs.declared.answer.ReadAnswer.TheVariants as read
use Rattle.cache_model.specs.declared.cause.Cause.TheVariants as cause
use Rattle.alternate_vector.specs.Field.{Field}
use Rattle.tape_base.specs.declared.keys.Key.{Key}
use Rattle.tape_base.specs.Place.{reach_of}
use Rattle.step_laws.specs.PlaceLaws.{vector_found}
use Rattle.cache_model.specs.Permit.{IsAmong}
use Rattle.cache_model.specs.State.{State, Mark, Row, after_all, floor_now, live_rows, mark_of, row_in, row_of}
use Rattle.cache_model.specs.Syncs.{Follows, IsAllowed}

-- the record begins a session, or a sync of this serial
abbrev pub record_begins_sync : ℕ → Rec → Bool
record_begins_sync serial (rec.Formatted geometry) = true
record_begins_sync serial (rec.Opened geometry number cursor floor next_put clean list) = true
record_begins_sync serial (rec.SyncBegun number cursor clean in_parts) = number == serial
record_begins_sync serial _ = false

-- it begins neither
abbrev pub LeavesSync : ℕ → Rec → Type 0
LeavesSync serial r = record_begins_sync serial r ≡ false

-- what is known of a sync that began in this state: its cursor, the next put number of then, and the pieces that were
-- live then, at or above a bound, which is the floor where it is clean
pub record HoldsWhatStood (s : State) (cursor : ℕ) (clean : Bool) (m : Mark) : Type 0 where
  pub cursor_is : m.cursor ≡ cursor
  pub clean_is : m.clean ≡ clean
  pub number : m.next_put ≡ s.next_put
  pub floor : clean ≡ true → m.low ≡ floor_now s
  pub bound : clean ≡ false → m.low ≡ reach_of s.geometry cursor - s.geometry.content
  pub rows : m.rows ≡ filter (λ (row : Row). nat_le m.low row.place) (live_rows s)

-- what a sync holds is how things stood when it began, whatever came since
abbrev pub SyncIsHeld : Type 0
SyncIsHeld = (s : State) (serial cursor : ℕ) (clean in_parts : Bool) (behind : List Rec) → AllByRecursion (LeavesSync serial) behind
    → (m : Mark) × (mark_of (after_all s (rec.SyncBegun serial cursor clean in_parts ∷ behind)) serial ≡ Some m) × HoldsWhatStood s cursor clean m

-- the record begins no session
abbrev pub record_begins_session : Rec → Bool
record_begins_session (rec.Formatted geometry) = true
record_begins_session (rec.Opened geometry serial cursor floor next_put clean list) = true
record_begins_session _ = false

-- so what the syncs of this one hold stays
abbrev pub StaysInSession : Rec → Type 0
StaysInSession r = record_begins_session r ≡ false

-- no later record changes what a sync holds
abbrev pub MarksStay : Type 0
MarksStay = (s : State) (m : Mark) (recs : List Rec) → AllByRecursion StaysInSession recs → IsAmong m s.marks → IsAmong m (after_all s recs).marks

-- the record finishes a sync, or begins a session
abbrev pub finishes_sync : Rec → Bool
finishes_sync (rec.Formatted geometry) = true
finishes_sync (rec.Opened geometry serial cursor floor next_put clean list) = true
finishes_sync (rec.SyncDone serial) = true
finishes_sync _ = false

-- it does neither
abbrev pub FinishesNone : Rec → Type 0
FinishesNone r = finishes_sync r ≡ false

-- the last sync that finished is that of the last such record
abbrev pub FinishedIsLast : Type 0
FinishedIsLast = (s : State) (serial : ℕ) (behind : List Rec) → AllByRecursion FinishesNone behind
    → (after_all s (rec.SyncDone serial ∷ behind)).finished ≡ serial

-- behind the end of a sync it may be found, and what was begun later, and nothing earlier
abbrev pub OnlyLaterAreAllowed : Type 0
OnlyLaterAreAllowed = (s : State) (serial : ℕ) (behind : List Rec) (m : Mark) → AllByRecursion FinishesNone behind
    → IsAllowed (after_all s (rec.SyncDone serial ∷ behind)) m → serial ≤ m.serial

-- a session begins as this sync holds it: each piece stands, the numbers of puts go on, and nothing below its bound is read
pub record BeginsAtMark (m : Mark) (s : State) : Type 0 where
  pub pieces : (id : PieceId) → row_of s id ≡ row_in m.rows id
  pub number : s.next_put ≡ m.next_put
  pub least : s.least ≡ m.low
  pub cursor : s.cursor ≡ m.cursor
  pub finished : s.finished ≡ m.serial
  pub marked : s.marked ≡ m.clean
  pub serial : s.opened ≡ Some m.serial
  pub quiet : s.running ≡ None

-- where an opening follows a session, the next one begins as the sync holds it that was taken up
abbrev pub FollowerHasSync : Type 0
FollowerHasSync = (s t : State) (geometry : Geometry) (o : Opening) (f : Follows s geometry o) → BeginsAtMark f.mark (after_all t (opened_records geometry o))

-- and that sync may be found behind it again, until another one finished
abbrev pub FollowerAllowsSync : Type 0
FollowerAllowsSync = (s t : State) (geometry : Geometry) (o : Opening) (f : Follows s geometry o)
    → IsAllowed (after_all t (opened_records geometry o)) (record f.mark { end = o.cursor })

-- a lookup of a key of which no record of the session speaks, and no found vector, tells the serial of its opening
abbrev pub OpenedIsTold : Type 0
OpenedIsTold = (t : State) (geometry : Geometry) (o : Opening) (key : Key) (request : List Field) → vector_found o.found key ≡ None
    → lookup_verdict (after_all t (opened_records geometry o)) key request ≡ read.Miss (cause.BeforeOpening o.serial)
