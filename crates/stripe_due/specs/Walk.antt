-- The walk from place to place that finds what is due.
use Rattle.std.specs.Prelude.{ℕ, ◌&&◌, Bool, false, not, nat_le, List, map, filter, Option, Some, None, option_and_then}
use Rattle.tape_base.specs.declared.pieces.PieceId.{PieceId}
use Rattle.tape_base.specs.Piece.{is_vector}
use Rattle.evacuator.specs.declared.choosing.Candidate.{Candidate}
use Rattle.cache_model.specs.State.{Row, State, live_row_of, most_fragments}
use Rattle.cache_model.specs.Verdict.{piece_at}
use Rattle.cache_model.specs.Due.{is_due, rows_from}
use Rattle.cache_model.specs.Due.{candidate_of}

-- the live piece that begins at a place
abbrev pub live_row_at : State → ℕ → Option Row
live_row_at s place = option_and_then (live_row_of s) (piece_at s place)

-- a piece as the choice takes it, beside its pin
abbrev pub pinned : Row → Candidate × ℕ
pinned row = (candidate_of row, row.pin)

-- what is due from one place on, and below another
abbrev pub candidates_from : State → ℕ → ℕ → ℕ → List Candidate
candidates_from s now low high = map candidate_of (filter (is_due s now) (rows_from s low high))

-- a number that may be there is at most this one
abbrev pub is_at_or_above : ℕ → Option ℕ → Bool
is_at_or_above index None = false
is_at_or_above index (Some next) = nat_le next index

-- a fragment is left to the reader that takes the least index next; a vector to none, and no piece of an index above
-- those of fragments
abbrev pub is_left_to_reader : PieceId → Option ℕ → Bool
is_left_to_reader id least = not (is_vector id) && (nat_le id.index most_fragments && is_at_or_above id.index least)
