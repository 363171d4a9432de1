-- What holds of a flush that copies pieces ahead.
use Rattle.std.specs.Prelude.{ℕ, ◌≡◌, ◌≢◌, ◌+◌, ◌<◌, ◌≤◌, Bool, true, false, List, ◌∷◌, filter, map, Some, None}
use Rattle.std.specs.List.{AllByRecursion}
use Rattle.tape_base.specs.declared.pieces.PieceId.{PieceId}
use Rattle.tape_base.specs.Geometry.{budget_of}
use Rattle.evacuator.specs.Choice.{kept_within}
use Rattle.cache_model.specs.declared.record.Rec.{Rec}
use Rattle.cache_model.specs.declared.record.Rec.TheVariants as rec
use Rattle.cache_model.specs.State.{State, Row, after_all, floor_next, floor_now, live_row_of, AllAlong}
use Rattle.model_laws.specs.Choices.{AreTried, GaveBytesFor, IsFaithful}
use Rattle.device_log.specs.Calls.{Asked}
use Rattle.cache_model.specs.Given.{MayCount}
use Rattle.step_laws.specs.StepLaws.{IsOfGiven, IsRefusalCount, IsRisen}
use Rattle.cache_model.specs.Tape.{IsSound}
use Rattle.cache_model.specs.Verdict.{piece_at}
use Rattle.cache_model.specs.Permit.{Permit}
use Rattle.cache_model.specs.Due.{due_pieces, is_due, rows_from}
use Rattle.cache_model.specs.Outcomes.{AreOutcomes, NoRoom, Outcome, flush_records, front_of, stopped_front_of, stopped_records}

-- ---- the choice

-- the piece is within the budget
abbrev pub is_kept : Outcome → Bool
is_kept NoRoom = false
is_kept _ = true

-- each piece is kept where its blocks and those kept before it are within the budget, and no other
abbrev pub KeptAreChosen : Type 0
KeptAreChosen = (p : Permit) (s : State) (left : ℕ) (rows : List Row) (outcomes : List Outcome) → AreOutcomes p s left rows outcomes
    → map is_kept outcomes ≡ kept_within left (map (λ (row : Row). row.blocks) rows)

-- ---- the walk from place to place

-- what is due is found from the floor on up to the next one
abbrev pub DueAreFound : Type 0
DueAreFound = (s : State) (now : ℕ) → due_pieces s now ≡ filter (is_due s now) (rows_from s (floor_now s) (floor_next s))

-- where a piece begins it is the next one, and the others begin behind that place; they may overlap it
abbrev pub WalkFinds : Type 0
WalkFinds = (s : State) (place high : ℕ) (id : PieceId) (row : Row) → IsSound s → floor_now s ≤ place → place < high
    → piece_at s place ≡ Some id → live_row_of s id ≡ Some row → rows_from s place high ≡ row ∷ rows_from s (place + 1) high

-- where none begins the walk goes on
abbrev pub WalkGoesOn : Type 0
WalkGoesOn = (s : State) (place high : ℕ) → IsSound s → floor_now s ≤ place → piece_at s place ≡ None
    → rows_from s place high ≡ rows_from s (place + 1) high

-- ---- the tape

-- the copies take no more than half a buffer, so that any piece has room behind them
abbrev pub FlushIsSound : Type 0
FlushIsSound = (p : Permit) (s : State) (now : ℕ) (outcomes : List Outcome) → IsSound s → AreOutcomes p s (budget_of s.geometry) (due_pieces s now) outcomes
    → (let t : State = after_all s (flush_records s (due_pieces s now) outcomes) in
    IsSound t × (floor_now s ≤ floor_now t) × (t.filled ≤ budget_of s.geometry))

-- a flush that stops leaves the buffer where it stands, and what it holds
abbrev pub StoppedIsSound : Type 0
StoppedIsSound = (s : State) (rows : List Row) (outcomes : List Outcome) (count : ℕ) → IsSound s
    → (let t : State = after_all s (stopped_records rows outcomes count) in
    IsSound t × (t.cursor ≡ s.cursor) × (t.filled ≡ s.filled))

-- ---- the device

-- damage is told only of a document that the device gave in the step, and a fault of a call that it refused
abbrev pub IsOfDevice : Permit → State → Rec → Type 0
IsOfDevice p s (rec.Damaged piece place kept found) = IsOfGiven p s place found × (kept ≢ found)
IsOfDevice p s (rec.Fault count) = IsRefusalCount p count
IsOfDevice p s _ = Unit {0}

-- each fault that a flush records is a new one, and so is what it tells of damage
abbrev pub FrontIsBacked : Type 0
FrontIsBacked = (p : Permit) (s : State) (left : ℕ) (rows : List Row) (outcomes : List Outcome) → AreOutcomes p s left rows outcomes
    → AllAlong (IsRisen p) s (front_of rows outcomes) × AllAlong (IsOfDevice p) s (front_of rows outcomes)

-- so it is in a flush that stops, for one more refusal
abbrev pub StoppedIsBacked : Type 0
StoppedIsBacked = (p : Permit) (s : State) (left : ℕ) (rows : List Row) (outcomes : List Outcome) (asked : Asked) (count : ℕ)
    → AreOutcomes p s left rows outcomes → MayCount p (after_all s (stopped_front_of rows outcomes)) asked count
    → AllAlong (IsRisen p) s (stopped_records rows outcomes count) × AllAlong (IsOfDevice p) s (stopped_records rows outcomes count)

-- ---- the outcomes

-- what was tried has outcomes
abbrev pub OutcomesAreFound : Type 0
OutcomesAreFound = (p : Permit) (s behind : State) (left : ℕ) (rows : List Row) → AreTried p s left rows behind
    → (outcomes : List Outcome) × AreOutcomes p s left rows outcomes

-- and what has outcomes was tried
abbrev pub OutcomesAreTried : Type 0
OutcomesAreTried = (p : Permit) (s : State) (left : ℕ) (rows : List Row) (outcomes : List Outcome) → AreOutcomes p s left rows outcomes
    → (behind : State) × AreTried p s left rows behind

-- on a sound tape it is enough that the device gave bytes for each piece that is due
abbrev pub GivenAreTried : Type 0
GivenAreTried = (p : Permit) (s : State) (now left : ℕ) → IsSound s → AllByRecursion (GaveBytesFor p s) (due_pieces s now)
    → AreTried p s left (due_pieces s now) s

-- on a sound tape and a faithful device, what is due has one list of outcomes
abbrev pub OutcomesAreFixed : Type 0
OutcomesAreFixed = (p : Permit) (s : State) (now left : ℕ) (one other : List Outcome) → IsSound s → IsFaithful p s
    → AreOutcomes p s left (due_pieces s now) one → AreOutcomes p s left (due_pieces s now) other → one ≡ other
