-- Which pieces are read for what is asked: the one that is asked for, and those to which a flush comes
-- that is to copy what is due.
use Rattle.std.specs.Prelude.{ℕ, ◌≡◌, ◌≤◌, Bool, true, false, not, List, ◌∷◌, length, Option, Some, None, option_and_then, if◌then◌else◌}
use Rattle.tape_base.specs.Geometry.{budget_of}
use Rattle.cache_model.specs.State.{State, Row, PutRow, after_all, put_of, reader_of}
use Rattle.cache_model.specs.Verdict.{live_vector_of}
use Rattle.cache_model.specs.Permit.{Permit, Intent, Flush, Sync, SyncBegin, Drain, Fragment, Weigh, Finish, Look, ReadOn, ReadAll}
use Rattle.cache_model.specs.Room.{has_room}
use Rattle.cache_model.specs.Given.{IsWritten}
use Rattle.cache_model.specs.Due.{due_pieces}
use Rattle.cache_model.specs.Outcomes.{IsOutcome, Outcome, left_behind, records_of}
use Rattle.cache_model.specs.Legal.{CanFlush, has_hit, live_next, vector_length}

-- the live piece that has to be read for what is asked: the key's vector, or the next fragment
abbrev pub to_read : State → Intent → Option Row
to_read s (Weigh put rest) = option_and_then (λ (w : PutRow). live_vector_of s w.key) (put_of s put)
to_read s (Look actor key request) = live_vector_of s key
to_read s (ReadOn reader) = option_and_then (live_next s) (reader_of s reader)
to_read s (ReadAll reader) = if has_hit s reader then option_and_then (live_next s) (reader_of s reader) else None
to_read s _ = None

-- what is asked begins with a flush: it is one, or a piece is to be placed that has no room
abbrev pub flushes_first : State → Intent → Bool
flushes_first s Flush = true
flushes_first s Sync = true
flushes_first s SyncBegin = true
flushes_first s Drain = true
flushes_first s (Fragment put index payload) = not (has_room s (length payload))
flushes_first s (Finish put fragments) = not (has_room s (vector_length s put))
flushes_first s _ = false

-- the walk over what is due comes to a piece, and reads it: the pieces before it came out in some way, and it fits
-- what they left of the budget
pub data ComesTo (p : Permit) (piece : Row) : State → ℕ → List Row → Type 0 where
  here : {s : State} {left : ℕ} {rows : List Row} → piece.blocks ≤ left → ComesTo p piece s left (piece ∷ rows)
  behind : {s : State} {left : ℕ} {row : Row} {rows : List Row} (o : Outcome) → IsOutcome p s left row o
      → ComesTo p piece (after_all s (records_of row o)) (left_behind left row o) rows → ComesTo p piece s left (row ∷ rows)

-- a flush at this moment, with so much of its budget left, comes to a piece that was written out
pub record IsCopied (p : Permit) (s : State) (now left : ℕ) (row : Row) : Type 0 where
  pub written : IsWritten s row
  pub comes : ComesTo p row s left (due_pieces s now)

-- what is read for what is asked: the piece that is asked for, or one to which the flush comes with which it begins
pub data IsToRead (p : Permit) (s : State) (i : Intent) (row : Row) : Type 0 where
  asked_for : to_read s i ≡ Some row → IsToRead p s i row
  copied : flushes_first s i ≡ true → CanFlush s → IsCopied p s p.now (budget_of s.geometry) row → IsToRead p s i row
