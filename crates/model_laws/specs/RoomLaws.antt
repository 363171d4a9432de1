-- What an entry displaces, and that each segment has room for what is live of it.
use Rattle.std.specs.Prelude.{ℕ, ◌≡◌, ◌≢◌, ◌⊎◌, ◌+◌, ◌*◌, ◌/◌, Bool, true, false, List, [], ◌∷◌, ◌++◌, length, Option, AllPairs, Contains}
use Rattle.std.specs.List.{AllByRecursion}
use Rattle.device_log.specs.Calls.{Call}
use Rattle.tape_base.specs.declared.pieces.PieceId.{PieceId}
use Rattle.tape_base.specs.declared.digests.Digest.{Digest}
use Rattle.cache_model.specs.declared.record.Rec.{Rec}
use Rattle.cache_model.specs.declared.record.Rec.TheVariants as rec
use Rattle.cache_model.specs.State.{State, Row, after_all, nothing_yet, without}
use Rattle.cache_model.specs.Permit.{Setting, Permit, Intent, Reason, End}
use Rattle.cache_model.specs.Room.{MayDisplace, displaced_record, displaces, is_full_for, rows_of_segment, segment_of_piece}
use Rattle.cache_model.specs.Tape.{AreApart, IsSound}
use Rattle.cache_model.specs.Legal.{Course, Does, IsLegal, IsStep, MayFlush}
use Rattle.cache_model.specs.Syncing.{MaySyncBehind, Syncing}
use Rattle.cache_model.specs.Slots.{AllFit, HasNoMoreLive, HasSlotForCopy}

-- behind what the entry of a piece displaces there is a slot for it
abbrev pub SlotIsMade : Type 0
SlotIsMade = (p : Permit) (s : State) (piece : PieceId) (added : List Rec) → p.packed ≡ true → MayDisplace p s piece added
    → is_full_for (after_all s added) piece ≡ false

-- the record tells that a live piece of the segment was displaced, and how many were live there before
abbrev pub TellsDisplaced : State → ℕ → Rec → Type 0
TellsDisplaced s segment r =
    (row : Row) × Contains (rows_of_segment s segment) row × (r ≡ displaced_record segment (length (rows_of_segment s segment)) row)

-- as many pieces were displaced as are a tenth of the slots of a segment that are no roots, rounded up: each another live one
-- of the segment
pub record IsTenth (s : State) (segment : ℕ) (added : List Rec) : Type 0 where
  pub count : length added ≡ (3 * s.geometry.buckets + 9) / 10
  pub each : AllByRecursion (TellsDisplaced s segment) added
  pub apart : AllPairs (λ (a b : Rec). a ≢ b) added

-- so it is where the segment of a piece has no slot for its entry
abbrev pub TenthIsDisplaced : Type 0
TenthIsDisplaced = (p : Permit) (s : State) (piece : PieceId) (added : List Rec) → MayDisplace p s piece added → displaces p s piece ≡ true
    → IsTenth s (segment_of_piece s piece) added

-- and where it has one nothing is displaced
abbrev pub NothingIsDisplaced : Type 0
NothingIsDisplaced = (p : Permit) (s : State) (piece : PieceId) (added : List Rec) → MayDisplace p s piece added → displaces p s piece ≡ false
    → added ≡ []

-- the record tells that a piece was displaced
abbrev pub is_displacement : Rec → Bool
is_displacement (rec.Displaced piece segment live) = true
is_displacement _ = false

-- none of these records does
abbrev pub TellNoDisplacement : List Rec → Type 0
TellNoDisplacement added = AllByRecursion (λ (r : Rec). is_displacement r ≡ false) added

-- with a directory that displaces nothing no step tells of a displacement
abbrev pub PlainDisplacesNothing : Type 0
PlainDisplacesNothing = (p : Permit) (s : State) (intents : List Intent) (added : List Rec) (why : Option Reason) → p.packed ≡ false
    → IsStep p s intents added why → TellNoDisplacement added

-- a piece that is placed behind what its entry displaces leaves room for all that is live
abbrev pub InsertFits : Type 0
InsertFits = (p : Permit) (s : State) (piece : PieceId) (added : List Rec) (place blocks pin : ℕ) (digest : Digest) → p.packed ≡ true
    → MayDisplace p s piece added → AllFit s → AllFit (after_all s (added ++ rec.Placed piece place blocks digest pin ∷ []))

-- ---- whole sessions

-- where no piece becomes live, and none has two rows, there is room as before
abbrev pub LessFits : Type 0
LessFits = (s t : State) → AreApart t.rows → t.geometry ≡ s.geometry → HasNoMoreLive s t → AllFit s → AllFit t

-- where a directory displaces, each group of records leaves room for all that is live
abbrev pub GroupFits : Type 0
GroupFits = (p : Permit) (s : State) (i : Intent) (added : List Rec) (e : End) → p.packed ≡ true
    → IsSound s → AllFit s → Does p s i added e → AllFit (after_all s added)

-- so does each step
abbrev pub StepFits : Type 0
StepFits = (p : Permit) (s : State) (intents : List Intent) (added : List Rec) (why : Option Reason) → p.packed ≡ true
    → IsSound s → AllFit s → IsStep p s intents added why → AllFit (after_all s added)

-- so it is in each legal chronicle
abbrev pub LegalFits : Type 0
LegalFits = (setting : Setting) (past : List Call) (courses : List Course) (recs : List Rec) → setting.packed ≡ true → IsLegal setting past courses recs → AllFit (after_all nothing_yet recs)

-- ---- the copies of a flush

-- the buffer is written out and the next one begins, with syncs or without
abbrev pub GoesThrough : Permit → State → List Rec → Type 0
GoesThrough p s added = MayFlush p s added ⊎ ((k : Syncing) × MaySyncBehind p k s added)

-- each copy of a flush has a slot just before it is recorded, so that it displaces nothing
abbrev pub MoveDisplacesNothing : Type 0
MoveDisplacesNothing = (p : Permit) (s : State) (added before behind : List Rec) (piece : PieceId) (from place : ℕ) (digest : Digest)
    → IsSound s → AllFit s → GoesThrough p s added → added ≡ before ++ rec.Moved piece from place digest ∷ behind
    → HasSlotForCopy (after_all s before) piece
