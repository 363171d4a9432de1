-- Which pieces a flush copies ahead (evacuation: Apache Traffic Server guide, Cache Architecture): those that
-- the next floor passes, and that are pinned past the moment or that an open reader has still to be given.
use Rattle.std.specs.Prelude.{ℕ, ◌*◌, ◌==◌, Bool, not, ◌&&◌, ◌||◌, nat_le, nat_lt, List, filter, map}
use Rattle.std.specs.List.{list_any}
use Rattle.tape_base.specs.declared.geometries.Geometry.{Geometry}
use Rattle.tape_base.specs.declared.pieces.PieceId.{PieceId}
use Rattle.tape_base.specs.Piece.{is_vector}
use Rattle.evacuator.specs.declared.choosing.Candidate.{Candidate}
use Rattle.cache_model.specs.State.{State, Row, ReaderRow, floor_next, live_rows, most_fragments}

-- a reader has still to be given the piece: a fragment of its put, of an index that it has not taken; a piece of an index
-- above those of fragments is due to nobody
abbrev pub is_due_to : PieceId → ReaderRow → Bool
is_due_to id r = not (is_vector id) && (nat_le id.index most_fragments && (r.put == id.put && nat_le r.next id.index))

-- so it is with some open reader, whether that hit the put or follows it
abbrev pub is_awaited : State → PieceId → Bool
is_awaited s id = list_any (is_due_to id) s.readers

-- a pin that equals the moment holds nothing
abbrev pub is_due : State → ℕ → Row → Bool
is_due s now row = nat_lt now row.pin || is_awaited s row.id

-- the live pieces that the next floor passes and that are due, in rising place
abbrev pub due_pieces : State → ℕ → List Row
due_pieces s now = filter (λ row. nat_lt row.place (floor_next s) && is_due s now row) (live_rows s)

-- the pieces that stand from one place on, and below another
abbrev pub rows_from : State → ℕ → ℕ → List Row
rows_from s low high = filter (λ row. nat_le low row.place && nat_lt row.place high) s.rows

-- ---- as the choice among them takes them

-- a piece as the choice takes it: its name, its place and its blocks
abbrev pub candidate_of : Row → Candidate
candidate_of row = record { id = row.id; place = row.place; blocks = row.blocks }

-- what is due, in rising place
abbrev pub due_candidates : State → ℕ → List Candidate
due_candidates s now = map candidate_of (due_pieces s now)

-- how many pieces the next floor passes at most: it moves by less than two buffers, a block each
abbrev pub most_passed : Geometry → ℕ
most_passed g = 2 * g.agg
