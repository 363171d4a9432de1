-- What comes of the pieces that a flush is to copy ahead, within its budget of blocks, and the records
-- of such a flush (evacuation: Apache Traffic Server guide, Cache Architecture).
use Rattle.std.specs.Prelude.{ℕ, ◌≡◌, ◌<◌, ◌≤◌, ◌-◌, Bool, true, false, List, [], ◌∷◌, ◌++◌}
use Rattle.tape_base.specs.declared.digests.Digest.{Digest}
use Rattle.doc_header.specs.Reading.{document_digest}
use Rattle.doc_header.specs.Moving.{moved_to}
use Rattle.cache_model.specs.declared.record.Rec.{Rec}
use Rattle.cache_model.specs.declared.record.Rec.TheVariants as rec
use Rattle.cache_model.specs.State.{State, Row, after_all, cursor_next, floor_next, place_now, state_after}
use Rattle.cache_model.specs.Permit.{Permit}
use Rattle.cache_model.specs.Given.{CountsRead, IsDamaged, IsGiven, IsWritten, damage_record}

-- what comes of one piece that is due: it is copied, or why not
pub data Outcome : Type 0 where
  -- what is left of the budget is too little for it
  NoRoom : Outcome
  -- the device gave these bytes, which have its digest: they are copied
  Copied : (bytes : List ℕ) → Outcome
  -- the device gave bytes with this digest, which is another
  Spoiled : (found : Digest) → Outcome
  -- the device refused, and its count then stood here
  ReadRefused : (count : ℕ) → Outcome

-- ---- the walk

-- what is left of the budget behind a piece
abbrev pub left_behind : ℕ → Row → Outcome → ℕ
left_behind left row NoRoom = left
left_behind left row _ = left - row.blocks

-- the piece stays at its place: for want of room, or, with `fault`, as the device refused to give it
abbrev pub unsaved_record : Row → Bool → Rec
unsaved_record row fault = rec.Unsaved row.id row.place fault

-- the records of a piece that is not copied
abbrev pub records_of : Row → Outcome → List Rec
records_of row NoRoom = unsaved_record row false ∷ []
records_of row (Copied bytes) = []
records_of row (Spoiled found) = damage_record row row.digest found ∷ []
records_of row (ReadRefused count) = rec.Fault count ∷ unsaved_record row true ∷ []

-- a piece that is within the budget is read
abbrev pub IsOutcome : Permit → State → ℕ → Row → Outcome → Type 0
IsOutcome p s left row NoRoom = left < row.blocks
IsOutcome p s left row (Copied bytes) = (row.blocks ≤ left) × IsGiven p s row bytes × (row.digest ≡ document_digest bytes)
IsOutcome p s left row (Spoiled found) = (row.blocks ≤ left) × IsDamaged p s row found
IsOutcome p s left row (ReadRefused count) = (row.blocks ≤ left) × IsWritten s row × CountsRead p s row count

-- one behind the other, each behind the records of those before it
abbrev pub AreOutcomes : Permit → State → ℕ → List Row → List Outcome → Type 0
AreOutcomes p s left [] [] = Unit {0}
AreOutcomes p s left [] (o ∷ outcomes) = ⊥
AreOutcomes p s left (row ∷ rows) [] = ⊥
AreOutcomes p s left (row ∷ rows) (o ∷ outcomes) =
    IsOutcome p s left row o × AreOutcomes p (after_all s (records_of row o)) (left_behind left row o) rows outcomes

-- ---- the records of a flush

-- those of the pieces that are not copied
abbrev pub front_of : List Row → List Outcome → List Rec
front_of [] outcomes = []
front_of (row ∷ rows) [] = []
front_of (row ∷ rows) (o ∷ outcomes) = records_of row o ++ front_of rows outcomes

-- a flush that stops tells of no piece that it is not saved
abbrev pub stopped_records_of : Row → Outcome → List Rec
stopped_records_of row NoRoom = []
stopped_records_of row (Copied bytes) = []
stopped_records_of row (Spoiled found) = damage_record row row.digest found ∷ []
stopped_records_of row (ReadRefused count) = rec.Fault count ∷ []

-- what the reads before the stop showed: damage and faults, in the order of the pieces
abbrev pub stopped_front_of : List Row → List Outcome → List Rec
stopped_front_of [] outcomes = []
stopped_front_of (row ∷ rows) [] = []
stopped_front_of (row ∷ rows) (o ∷ outcomes) = stopped_records_of row o ++ stopped_front_of rows outcomes

-- behind them comes the fault of the refusal for which it stops
abbrev pub stopped_records : List Row → List Outcome → ℕ → List Rec
stopped_records rows outcomes count = stopped_front_of rows outcomes ++ rec.Fault count ∷ []

-- a piece, and the bytes of its document
pub record Copy : Type 0 where
  pub row : Row
  pub bytes : List ℕ

-- one copy where the piece is copied, with the bytes as the device gave them, and else none
abbrev pub copy_of : Row → Outcome → List Copy
copy_of row (Copied bytes) = record { row = row; bytes = bytes } ∷ []
copy_of row _ = []

-- the pieces that are copied, in the order in which they are due
abbrev pub copies_of : List Row → List Outcome → List Copy
copies_of [] outcomes = []
copies_of (row ∷ rows) [] = []
copies_of (row ∷ rows) (o ∷ outcomes) = copy_of row o ++ copies_of rows outcomes

-- the copy stands behind those of its buffer
abbrev pub moved_record : State → Copy → Rec
moved_record s c = rec.Moved c.row.id c.row.place (place_now s) (document_digest (moved_to (place_now s) c.bytes))

-- one behind the other, each placed in the state that the copies before it leave
abbrev pub moved_records : State → List Copy → List Rec
moved_records s [] = []
moved_records s (c ∷ copies) = moved_record s c ∷ moved_records (state_after s (moved_record s c)) copies

-- the buffer behind the one that is written out, and the floor that it brings
abbrev pub began_record : State → Rec
began_record s = rec.Began (cursor_next s) (floor_next s)

-- the next buffer begins behind the records of what is not copied, and the copies stand first in it
abbrev pub flush_tail : State → List Row → List Outcome → List Rec
flush_tail s rows outcomes =
    began_record s ∷ moved_records (state_after (after_all s (front_of rows outcomes)) (began_record s)) (copies_of rows outcomes)

-- a flush without a sync: what is not copied, and the next buffer
abbrev pub flush_records : State → List Row → List Outcome → List Rec
flush_records s rows outcomes = front_of rows outcomes ++ flush_tail s rows outcomes
