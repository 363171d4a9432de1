-- What holds of the places of a session's pieces, in each legal chronicle.
use Rattle.std.specs.Prelude.{ℕ, ◌≡◌, ◌+◌, ◌<◌, ◌≤◌, ◌==◌, false, List, [], ◌∷◌, Some}
use Rattle.std.specs.Map.{lookup}
use Rattle.tape_base.specs.declared.pieces.PieceId.{PieceId}
use Rattle.tape_base.specs.Piece.{same_piece}
use Rattle.tape_base.specs.Place.{lap_end_of}
use Rattle.cache_model.specs.State.{State, Row, place_now}

-- pieces that begin one behind the other from a low place on, none of them empty, each of which ends at a high
-- place or below it; pieces that an opening found may overlap
abbrev pub AreRising : ℕ → List Row → ℕ → Type 0
AreRising low [] high = low ≤ high
AreRising low (row ∷ rows) high = (low ≤ row.place) × (0 < row.blocks) × (row.place + row.blocks ≤ high) × AreRising (row.place + 1) rows high

-- no row has this piece
abbrev pub NotAmong : PieceId → List Row → Type 0
NotAmong id [] = Unit {0}
NotAmong id (row ∷ rows) = (same_piece id row.id ≡ false) × NotAmong id rows

-- no piece has two rows
abbrev pub AreApart : List Row → Type 0
AreApart [] = Unit {0}
AreApart (row ∷ rows) = NotAmong row.id rows × AreApart rows

-- each row's place is known as that of its piece
abbrev pub AreKnown : List (ℕ × PieceId) → List Row → Type 0
AreKnown places [] = Unit {0}
AreKnown places (row ∷ rows) = (lookup (λ p. p == row.place) places ≡ Some row.id) × AreKnown places rows

-- the buffer lies in one lap, behind the bound of the opening, and is not overfull, and the pieces begin one behind the other and end
-- where it ends, or below
pub record IsSound (s : State) : Type 0 where
  pub from : s.geometry.content ≤ s.cursor
  pub least : s.least ≤ s.cursor
  pub lap : s.cursor + s.geometry.agg ≤ lap_end_of s.geometry s.cursor
  pub room : s.filled ≤ s.geometry.agg
  pub rising : AreRising s.geometry.content s.rows (place_now s)
  pub apart : AreApart s.rows
  pub known : AreKnown s.places s.rows
