-- What is told of the pieces that were looked at before a flush, and what is copied of them, piece by
-- piece as it is kept in memory.
use Rattle.std.specs.Prelude.{ℕ, ◌≡◌, ◌+◌, ◌*◌, ◌<◌, ◌≤◌, Bool, true, false, if◌then◌else◌, List, [], ◌∷◌, ◌++◌, drop, length, take, Some}
use Rattle.evacuator.specs.declared.choosing.Candidate.{Candidate}
use Rattle.doc_header.specs.Reading.{document_digest}
use Rattle.doc_header.specs.Moving.{moved_to}
use Rattle.cache_model.specs.declared.record.Rec.{Rec}
use Rattle.cache_model.specs.declared.record.Rec.TheVariants as rec
use Rattle.cache_model.specs.State.{Row, State, after_all, cursor_next, floor_next, place_now, row_of, state_after}
use Rattle.cache_model.specs.Contents.{Contents}
use Rattle.piece_answers.specs.declared.ahead.Fate.{Fate}
use Rattle.piece_answers.specs.declared.ahead.Fate.TheVariants as fate
use Rattle.held_pieces.specs.Whereabouts.{live_place_of}
use Rattle.held_pieces.specs.Records.{IsMovable}
use Rattle.piece_answers.specs.Standing.{HasContent}

-- ---- what is told

-- that a piece is not saved is told of a flush that is done
abbrev pub left_records : Bool → Candidate → Bool → List Rec
left_records done c fault = if done then rec.Unsaved c.id c.place fault ∷ [] else []

-- what is told of one piece: damage and faults also of a flush that is not done
abbrev pub told_of_piece : Bool → Candidate → Fate → List Rec
told_of_piece done c fate.NoRoom = left_records done c false
told_of_piece done c (fate.Copied pinned) = []
told_of_piece done c (fate.Spoiled kept found) = rec.Damaged c.id c.place kept found ∷ []
told_of_piece done c (fate.Refused count) = rec.Fault count ∷ left_records done c true

-- of each piece in turn
abbrev pub told_of_pieces : Bool → List Candidate → List Fate → List Rec
told_of_pieces done [] fates = []
told_of_pieces done (c ∷ cs) [] = []
told_of_pieces done (c ∷ cs) (f ∷ fs) = told_of_piece done c f ++ told_of_pieces done cs fs

-- what is told as damaged is live, and a fault is one that the device counted
abbrev pub IsTellable : State → ℕ → Candidate → Fate → Type 0
IsTellable s faults c (fate.Spoiled kept found) = live_place_of s c.id ≡ Some c.place
IsTellable s faults c (fate.Refused count) = count ≤ faults
IsTellable s faults c _ = Unit {0}

-- each behind the records of those before it
abbrev pub AreTellable : Bool → State → ℕ → List Candidate → List Fate → Type 0
AreTellable done s faults [] [] = Unit {0}
AreTellable done s faults (c ∷ cs) (f ∷ fs) = IsTellable s faults c f × AreTellable done (after_all s (told_of_piece done c f)) faults cs fs
AreTellable done s faults _ _ = ⊥

-- ---- what is copied

-- how many blocks of memory a piece takes: all that is read has its own
abbrev pub blocks_for : Candidate → Fate → ℕ
blocks_for c fate.NoRoom = 0
blocks_for c _ = c.blocks

-- they hold its document
abbrev pub bytes_for : ℕ → Candidate → Fate → List ℕ → List ℕ
bytes_for at c f memory = take (512 * blocks_for c f) (drop (512 * at) memory)

-- the record of a copy of these bytes
abbrev pub copied_record : State → Candidate → List ℕ → Rec
copied_record s c bytes = rec.Moved c.id c.place (place_now s) (document_digest (moved_to (place_now s) bytes))

-- a record where the piece is copied, and else none
abbrev pub copied_by : State → Candidate → Fate → List ℕ → List Rec
copied_by s c (fate.Copied pinned) bytes = copied_record s c bytes ∷ []
copied_by s c _ bytes = []

-- of each piece in turn, whose documents stand one behind the other
abbrev pub copied_of : State → ℕ → List Candidate → List Fate → List ℕ → List Rec
copied_of s at [] fates memory = []
copied_of s at (c ∷ cs) [] memory = []
copied_of s at (c ∷ cs) (f ∷ fs) memory =
    let recs : List Rec = copied_by s c f (bytes_for at c f memory) in
    recs ++ copied_of (after_all s recs) (at + blocks_for c f) cs fs memory

-- the floor has passed the piece that is copied, the buffer has room for it, and the directory a slot
pub record IsCopyable (packed : Bool) (s : State) (c : Candidate) (bytes : List ℕ) : Type 0 where
  pub row : Row
  pub movable : IsMovable packed s c.id row bytes
  pub place : row.place ≡ c.place
  pub blocks : row.blocks ≡ c.blocks
  pub some : 0 < c.blocks

-- of a piece that is not copied nothing is asked
abbrev pub IsCopyableWhereCopied : Bool → State → Candidate → Fate → List ℕ → Type 0
IsCopyableWhereCopied packed s c (fate.Copied pinned) bytes = IsCopyable packed s c bytes
IsCopyableWhereCopied packed s c _ bytes = Unit {0}

-- each behind those before it; what is read stands in memory
abbrev pub AreCopyable : Bool → State → ℕ → List Candidate → List Fate → List ℕ → Type 0
AreCopyable packed s at [] [] memory = Unit {0}
AreCopyable packed s at (c ∷ cs) (f ∷ fs) memory =
    (512 * (at + blocks_for c f) ≤ length memory)
    × IsCopyableWhereCopied packed s c f (bytes_for at c f memory)
    × AreCopyable packed (after_all s (copied_by s c f (bytes_for at c f memory))) (at + blocks_for c f) cs fs memory
AreCopyable packed s at _ _ memory = ⊥

-- the bytes are what is told of a piece
abbrev pub IsToldRow : Contents → State → Candidate → List ℕ → Type 0
IsToldRow contents s c bytes = (row : Row) → row_of s c.id ≡ Some row → HasContent contents s.geometry row bytes

-- where it is copied
abbrev pub IsToldCopied : Contents → State → Candidate → Fate → List ℕ → Type 0
IsToldCopied contents s c (fate.Copied pinned) bytes = IsToldRow contents s c bytes
IsToldCopied contents s c _ bytes = Unit {0}

-- each behind those before it
abbrev pub AreToldCopied : Contents → State → ℕ → List Candidate → List Fate → List ℕ → Type 0
AreToldCopied contents s at [] fates memory = Unit {0}
AreToldCopied contents s at (c ∷ cs) [] memory = Unit {0}
AreToldCopied contents s at (c ∷ cs) (f ∷ fs) memory =
    IsToldCopied contents s c f (bytes_for at c f memory)
    × AreToldCopied contents (after_all s (copied_by s c f (bytes_for at c f memory))) (at + blocks_for c f) cs fs memory

-- 1 where the piece is copied, and else 0
abbrev pub copies_by : Fate → ℕ
copies_by (fate.Copied pinned) = 1
copies_by _ = 0

-- how many are copied
abbrev pub copies_among : List Fate → ℕ
copies_among [] = 0
copies_among (f ∷ fs) = copies_by f + copies_among fs

-- ---- the flush that is done

-- behind what is told the next buffer begins
abbrev pub begun_behind : State → List Rec → State
begun_behind s told = state_after (after_all s told) (rec.Began (cursor_next s) (floor_next s))

-- what is told first, then that the next buffer begins, and then what is copied into it
abbrev pub done_records : State → List Candidate → List Fate → List ℕ → List Rec
done_records s cs fs memory =
    let told : List Rec = told_of_pieces true cs fs in
    told ++ rec.Began (cursor_next s) (floor_next s) ∷ copied_of (begun_behind s told) 0 cs fs memory
